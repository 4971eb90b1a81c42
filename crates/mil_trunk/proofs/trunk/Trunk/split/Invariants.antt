use Rattle.mil_trunk.proofs.trunk.Trunk.split.Given as goal

abbrev pub ghosts-part : goal.ghosts-part
ghosts-part g a = record { tags = a.tags }
