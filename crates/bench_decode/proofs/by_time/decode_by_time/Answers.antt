use Rattle.std.proofs.Common.{◌≡◌, ◌∙◌, List, [], Ok, ap, refl, subst}
use Rattle.ch11_reader.specs.Indexed.{found_in}
use Rattle.ch11_reader.specs.Recording.{Found}
use Rattle.ch11_reader.specs.Skipping.{skips_in}
use Rattle.bench_decode.specs.Printed.{AreDecodedByTime}
use Rattle.bench_decode.proofs.Sorted.{all_by_time, found_whole}
use Rattle.bench_decode.proofs.by_time.decode_by_time.Goals as goal

pub returns-clause-decoded : goal.returns-clause-decoded
returns-clause-decoded g c = λ whole.
    let o = c.args.output.now in
    let found = c.in_ok-found.ensures.whole whole in
    let begun = c.in_ok-printing.ensures.behind in
    let skipped = rw (c.skipped.ensures, found.1) at c.in_ok-put_skips.ensures.put in
    let sorted = c.in_ok-put_by_time.ensures.put (record { counts = begun.counts; count = begun.count; shown = skipped.shown ∙ begun.shown }) in
    let same : c.in_ok-found.found.index ≡ found_in c.args.bytes.now = found_whole c.args.bytes.now c.in_ok-found.found.index found.0 in (
      found.0 ∙ ap Ok same,
      subst (λ (ps : List Found). AreDecodedByTime o (g.W.Write.contents c.args.out.now) (g.W.Write.contents c.finish.new.out) [] ps c.put_by_time.new.printing.count) same
          (all_by_time o _ _ _ _ [] c.in_ok-found.found.index _ _ _ _ c.in_ok-printing.ensures.line skipped refl sorted c.in_ok-finish.ensures.gone),
    )

pub returns-clause-sound : goal.returns-clause-sound
returns-clause-sound g c = λ is.
    let o = c.args.output.now in
    let found = c.in_ok-found.ensures.sound is in
    let begun = c.in_ok-printing.ensures.behind in
    let skipped = rw (c.skipped.ensures, found.1) at c.in_ok-put_skips.ensures.put in
    let sorted = c.in_ok-put_by_time.ensures.put (record { counts = begun.counts; count = begun.count; shown = skipped.shown ∙ begun.shown }) in
    subst (λ (ps : List Found). AreDecodedByTime o (g.W.Write.contents c.args.out.now) (g.W.Write.contents c.finish.new.out) (skips_in c.args.bytes.now) ps c.put_by_time.new.printing.count) found.0
    (all_by_time o _ _ _ _ (skips_in c.args.bytes.now) c.in_ok-found.found.index _ _ _ _ c.in_ok-printing.ensures.line skipped refl sorted c.in_ok-finish.ensures.gone)
