use Rattle.frame_text.proofs.TreesRead.{sound_back}
use Rattle.frame_text.proofs.laws.scripts_read_back.Goals as goal

pub returns : goal.returns
returns c t is sound = sound_back t is sound
