use Rattle.std.proofs.Common.{◌-◌, ◌<◌, length, get_or, refl, sym, ap, ◌∙◌, arith}
use Rattle.frame_code.specs.declared.Op.TheVariants.{Halt}
use Rattle.frame_code.specs.Loadable.{is_loop}
use Rattle.frame_load.proofs.Marks.{op_at, innermost_below, kind_marked, no_loop}
use Rattle.frame_load.proofs.nesting.innermost_kind.Goals as goal

pub bounds : goal.bounds
bounds c = omega (arith, c.requires.marked c.args.place c.requires.place, innermost_below c.args.operations.now c.args.place, c.requires.place)

pub returns-in-Loop : goal.returns-in-Loop
returns-in-Loop c =
    let os = c.args.operations.now in
    let m = get_or c.args.brackets.now c.args.place 0 in
    let mark = c.requires.marked c.args.place c.requires.place in
    let inside : m - 1 < length os = omega (arith, mark, innermost_below os c.args.place, c.requires.place) in
    sym (kind_marked os c.args.place m mark c.if-bracket-eq0.false (ap is_loop (op_at os (m - 1) Halt _ inside c.in-Loop.is)))

pub returns-in_default : goal.returns-in_default
returns-in_default c =
    let os = c.args.operations.now in
    let m = get_or c.args.brackets.now c.args.place 0 in
    let mark = c.requires.marked c.args.place c.requires.place in
    let inside : m - 1 < length os = omega (arith, mark, innermost_below os c.args.place, c.requires.place) in
    sym (kind_marked os c.args.place m mark c.if-bracket-eq0.false (ap is_loop (op_at os (m - 1) Halt (get_or os (m - 1) Halt) inside refl) ∙ no_loop (get_or os (m - 1) Halt) c.in_default.not-Loop))
