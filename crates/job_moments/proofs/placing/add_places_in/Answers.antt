use Rattle.std.proofs.Common.{◌++◌, List, ℕ, sym, ap, ◌∙◌}
use Rattle.std.proofs.lemmas.List.{append-nil}
use Rattle.job_moments.specs.Chunks.{lines_in}
use Rattle.job_moments.specs.Rules.{occasion_of}
use Rattle.job_moments.proofs.Chunking.{quiet_lines}
use Rattle.job_moments.proofs.Places.{places_none}
use Rattle.job_moments.proofs.placing.add_places_in.Goals as goal

pub returns-then-has : goal.returns-then-has
returns-then-has c =
    let chunk = c.args.chunk.now in
    let made = c.args.counts.now.made in
    let next = c.args.next.now in
    let old = c.args.places.now.items in
    sym (append-nil old)
    ∙ ap (λ (ks : List ℕ). old ++ ks)
    (sym (places_none made next c.args.first (lines_in chunk)
    (quiet_lines occasion_of chunk.quiet made next (lines_in chunk) c.requires.known.sleeps (c.has.ensures made c.number.ensures c.if-has.true))))
