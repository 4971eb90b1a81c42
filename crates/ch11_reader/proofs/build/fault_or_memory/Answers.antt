use Rattle.std.proofs.Common.{◌∷◌, length, refl, sym, arith}
use Rattle.std.proofs.lemmas.Bool.{eqb-true, eqb-false}
use Rattle.ch11_reader.proofs.Loop.{goes_on, stops, ends, next_found}
use Rattle.ch11_reader.proofs.build.fault_or_memory.Goals as goal

pub loop-rest-preserved : goal.loop-rest-preserved
loop-rest-preserved c =
    let h = c.in-Ok.checked.header in
    let earlier = c.loop-rest.invariant.0 in (
      next_found c.args.file.now c.loop-rest.rest.now h ∷ earlier,
      rw c.split_at.ensures.back (goes_on c.args.file.now c.loop-rest.rest.now earlier h c.in-Ok.ensures.read c.in-Ok.ensures.whole.0 c.in-Ok.ensures.whole.1 c.loop-rest.invariant.1),
    )

pub returns-in-Err : goal.returns-in-Err
returns-in-Err c = stops c.args.file.now c.loop-rest.rest.now c.loop-rest.invariant.0 c.in-Err.fault (omega (arith, eqb-false (length c.loop-rest.rest.now) 0 (sym c.loop-rest-test.ensures))) c.in-Err.ensures.read c.loop-rest.invariant.1

pub returns : goal.returns
returns c =
    let read = ends c.args.file.now c.loop-rest.rest.now c.loop-rest.invariant.0 (eqb-true (length c.loop-rest.rest.now) 0 (sym c.loop-rest-test.ensures)) c.loop-rest.invariant.1 in
    rw read refl
