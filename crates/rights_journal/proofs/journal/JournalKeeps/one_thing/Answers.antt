use Rattle.rights_journal.proofs.journal.JournalKeeps.one_thing.Goals as goal

pub returns-clause-once : goal.returns-clause-once
returns-clause-once g c = λ replicas xs ys bytes a b. (c.one_thing.ensures replicas bytes).batches xs ys a b

pub returns-clause-never_both : goal.returns-clause-never_both
returns-clause-never_both g c = λ replicas at batches bytes stands foreign. (c.one_thing.ensures replicas bytes).never_both batches at stands foreign
