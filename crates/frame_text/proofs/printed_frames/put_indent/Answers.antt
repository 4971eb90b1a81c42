use Rattle.std.proofs.Common.{string_bytes}
use Rattle.frame_text.proofs.PrintedLines.{indent_more}
use Rattle.frame_text.proofs.printed_frames.put_indent.Goals as goal

pub loop-preserved : goal.loop-preserved
loop-preserved c = indent_more c.loop.counter (string_bytes c.args.out.now) (string_bytes c.loop.out) _ c.loop.invariant c.in_ok-push_str.ensures.bytes
