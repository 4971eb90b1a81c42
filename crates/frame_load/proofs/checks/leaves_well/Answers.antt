use Rattle.std.proofs.Common.{◌≡◌, ◌-◌, ◌<◌, length, get_or, sym, ap, ◌∙◌, arith, rules}
use Rattle.frame_code.specs.declared.Op.TheVariants.{Halt}
use Rattle.frame_code.specs.Loadable.{open_at}
use Rattle.frame_load.proofs.Marks.{op_at, jumps_by, jumps_back}
use Rattle.frame_load.proofs.checks.leaves_well.Goals as goal

pub returns : goal.returns
returns c =
    let os = c.args.operations.now in
    let t = c.args.brackets.now in
    let q = c.args.target - 1 in
    let inside : q < length os = omega arith in (
      λ y. (q, c.in-Again.field-0, omega arith, op_at os q Halt _ inside c.in-Again.is, jumps_by os t c.args.place q c.requires.marked c.requires.place inside (let e : get_or t q 0 ≡ get_or t c.args.place 0 = search rules in e)),
      λ j. let same : j.0 ≡ q = omega (arith, j.2) in
          let e : get_or t q 0 ≡ get_or t c.args.place 0 = jumps_back os t c.args.place q c.requires.marked c.requires.place inside (ap (open_at os) (sym same) ∙ j.4) in search rules,
    )
