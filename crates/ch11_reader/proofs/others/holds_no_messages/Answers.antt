use Rattle.std.proofs.Common.{◌<◌, [], ◌∷◌, length, sym, arith, rules}
use Rattle.std.proofs.lemmas.Bool.{eqb-true, eqb-false, eq-eqb, ne_eqb}
use Rattle.ch11_reader.proofs.Loop.{begins, goes_on, stops, next_found}
use Rattle.ch11_reader.proofs.NoMessages.{all_others, one_of_messages, unreadable}
use Rattle.ch11_reader.proofs.others.holds_no_messages.Goals as goal

pub loop-rest-init : goal.loop-rest-init
loop-rest-init c = ([], begins c.args.file.now, tt)

pub loop-rest-preserved : goal.loop-rest-preserved
loop-rest-preserved c =
    let file = c.args.file.now in
    let rest = c.loop-rest.rest.now in
    let h = c.in-Ok.checked.header in
    let earlier = c.loop-rest.invariant.0 in (
      next_found file rest h ∷ earlier,
      rw c.split_at.ensures.back (goes_on file rest earlier h c.in-Ok.ensures.read c.in-Ok.ensures.whole.0 c.in-Ok.ensures.whole.1 c.loop-rest.invariant.1),
      (ne_eqb h.kind _ c.if-checked-eq-BUS_MESSAGES.false, c.loop-rest.invariant.2),
    )

pub returns-in_default : goal.returns-in_default
returns-in_default c =
    let file = c.args.file.now in
    let rest = c.loop-rest.rest.now in
    let some : 0 < length rest = omega (arith, eqb-false (length rest) 0 (sym c.loop-rest-test.ensures)) in (
      λ wrong. search rules,
      λ is. absurd (unreadable file _ (stops file rest c.loop-rest.invariant.0 c.in_default.field-0 some c.in_default.ensures.read c.loop-rest.invariant.1) is),
    )

pub returns-then-checked-eq-BUS_MESSAGES : goal.returns-then-checked-eq-BUS_MESSAGES
returns-then-checked-eq-BUS_MESSAGES c =
    let file = c.args.file.now in
    let rest = c.loop-rest.rest.now in
    let h = c.in-Ok.checked.header in
    let earlier = c.loop-rest.invariant.0 in
    let going = goes_on file rest earlier h c.in-Ok.ensures.read c.in-Ok.ensures.whole.0 c.in-Ok.ensures.whole.1 c.loop-rest.invariant.1 in (
      λ wrong. search rules,
      λ is. absurd (one_of_messages file _ earlier (next_found file rest h) (eq-eqb h.kind _ c.if-checked-eq-BUS_MESSAGES.true) going is),
    )

pub returns : goal.returns
returns c = (
  λ holds. all_others c.args.file.now c.loop-rest.rest.now c.loop-rest.invariant.0 (eqb-true (length c.loop-rest.rest.now) 0 (sym c.loop-rest-test.ensures)) c.loop-rest.invariant.1 c.loop-rest.invariant.2,
  λ is. search rules,
)
