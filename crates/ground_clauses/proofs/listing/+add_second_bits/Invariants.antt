use Rattle.ground_clauses.proofs.listing.+add_second_bits.Given as goal

abbrev pub decreases-add_second_bits : goal.decreases-add_second_bits
decreases-add_second_bits l = l.count
