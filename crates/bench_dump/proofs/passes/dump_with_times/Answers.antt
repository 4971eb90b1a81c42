use Rattle.std.proofs.Common.{◌≡◌, Bool, refl, subst}
use Rattle.std.specs.Prelude.{IfOk}
use Rattle.ch11_reader.specs.Indexed.{found_in}
use Rattle.ch11_reader.specs.Listing.{listing}
use Rattle.bench_clock.specs.Clock.{marks_of}
use Rattle.bench_dump.proofs.Refused.{first_fault, not_both, other_timed, same_clock}
use Rattle.bench_dump.proofs.passes.dump_with_times.Goals as goal

pub returns-in-Ok-clause-refused : goal.returns-in-Ok-clause-refused
returns-in-Ok-clause-refused g c file r is refused = absurd (not_both file _ r (c.in-Ok.ensures.clock file is).0 refused)

pub returns-in-Ok-clause-unread : goal.returns-in-Ok-clause-unread
returns-in-Ok-clause-unread g c file is = subst (λ (b : Bool). IfOk c.telling.result (λ told. told ≡ b)) (c.in-Ok.ensures.unread file is).1 c.telling.ensures.unread

pub returns-in-Ok-clause-dumped : goal.returns-in-Ok-clause-dumped
returns-in-Ok-clause-dumped g c file other is then read =
    c.telling.ensures.dumped (marks_of c.args.named file (listing (found_in file))) other _ _
    (same_clock _ (marks_of c.args.named file (listing (found_in file))) c.print_packets_by-printed.result other _ _ (c.in-Ok.ensures.clock file is).1 (c.print_packets_by-printed.ensures other then))

pub returns-in-Err-clause-refused : goal.returns-in-Err-clause-refused
returns-in-Err-clause-refused g c file r is refused = (refl, first_fault Bool file r c.in-Err.fault (c.in-Err.ensures.clock file is) refused)

pub returns-in-Err-clause-dumped : goal.returns-in-Err-clause-dumped
returns-in-Err-clause-dumped g c file other is then read = other_timed (marks_of c.args.named file (listing (found_in file))) file other _ c.in-Err.fault (c.in-Err.ensures.clock file is) read
