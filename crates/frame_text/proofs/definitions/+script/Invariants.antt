use Rattle.frame_text.proofs.definitions.+script.Given as goal

abbrev pub decreases-script : goal.decreases-script
decreases-script g l = l.left
