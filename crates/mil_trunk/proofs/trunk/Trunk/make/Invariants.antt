use Rattle.mil_trunk.proofs.trunk.Trunk.make.Given as goal

abbrev pub ghosts-begin : goal.ghosts-begin
ghosts-begin g a = record { bounds = a.bounds.now }
