use Rattle.bench_dump.proofs.InTurn.{stretch_few}
use Rattle.bench_decode.proofs.Recordings.{all_sound, stretch_more, stretches_none}
use Rattle.bench_decode.proofs.streaming.decode_sound.Goals as goal

pub stretches-init : goal.stretches-init
stretches-init g c file is = rw (c.in_ok-stretches.ensures, is) (stretches_none c.args.output.now file (g.W.Write.contents c.args.out.now) c.in_ok-printing.printing c.in_ok-printing.ensures.behind c.in_ok-printing.ensures.line)

pub put_stretch-requires : goal.put_stretch-requires
put_stretch-requires g c = stretch_few c.stretches.stretches c.next.new.self c.in-Ok-Some.stretch (rw c.in-Ok-Some.field-0-is at c.in-Ok-Some.ensures)

pub stretches-preserved : goal.stretches-preserved
stretches-preserved g c file is =
    let now = c.stretches.invariant file is in
    stretch_more c.args.output.now file _ _ _ c.stretches.printing c.put_stretch.new.printing c.stretches.stretches c.next.new.self c.in-Ok-Some.stretch (rw c.in-Ok-Some.field-0-is at c.in-Ok-Some.ensures) now
    (c.in_ok-put_stretch-in-Ok-Some.ensures.put _ now.kept)

pub returns-in-Ok-None-clause-sound : goal.returns-in-Ok-None-clause-sound
returns-in-Ok-None-clause-sound g c file is =
    let e = rw c.in-Ok-None.field-0-is at c.in-Ok-None.ensures in
    all_sound c.args.output.now file _ _ _ c.stretches.printing c.stretches.stretches c.next.new.self e (c.stretches.invariant file is) c.in_ok-finish-in-Ok-None.ensures.gone
