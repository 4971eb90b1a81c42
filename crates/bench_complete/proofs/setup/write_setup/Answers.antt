use Rattle.std.proofs.Common.{ℕ, [], ◌∷◌, ◌+◌, length, replicate, ap, subst, ◌∙◌}
use Rattle.std.specs.Io.KnownBytes.{Appends}
use Rattle.ch11_header.specs.HeaderBytes.{header_bytes}
use Rattle.bench_complete.specs.SetupRecord.{filler_for, setup_header}
use Rattle.bench_complete.proofs.Written.{four_written, filler_is}
use Rattle.bench_complete.proofs.setup.write_setup.Goals as goal

pub returns-clause-written : goal.returns-clause-written
returns-clause-written g c =
    let header = c.write_header.ensures ∙ ap header_bytes c.header_of.ensures in
    let filler = filler_is c.filler_for-filler.result c.filler_for-filler.ensures.few ∙ ap (λ (n : ℕ). replicate n 0) c.filler_for-filler.ensures.answer in
    four_written _ _ _ _ _ (header_bytes (setup_header c.args.version c.args.counter (length c.args.text.now))) (0x0C ∷ 0 ∷ 0 ∷ 0 ∷ []) c.args.text.now
    (replicate (filler_for (length c.args.text.now + 4)) 0)
    (subst (Appends _ _) header c.in_ok-write_all.ensures.bytes) c.in_ok-write_all-2.ensures.bytes c.in_ok-write_all-3.ensures.bytes
    (subst (Appends _ _) filler c.in_ok-write_all-4.ensures.bytes)
