use Rattle.std.proofs.Common.{length}
use Rattle.frame_text.proofs.printed_frames.+put_word.Given as goal

abbrev pub decreases-put_word : goal.decreases-put_word
decreases-put_word l = length l.word.now
