use Rattle.ground_clauses.proofs.listing.+add_first_bits.Given as goal

abbrev pub decreases-add_first_bits : goal.decreases-add_first_bits
decreases-add_first_bits l = l.count
