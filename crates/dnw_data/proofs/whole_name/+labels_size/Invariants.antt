use Rattle.dnw_data.proofs.whole_name.+labels_size.Given as goal

abbrev pub decreases-labels_size : goal.decreases-labels_size
decreases-labels_size l = l.most
