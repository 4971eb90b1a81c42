use Rattle.std.proofs.Common.{◌≡◌, ◌<◌, length, get_or, sym, ◌∙◌, arith, rules}
use Rattle.frame_code.specs.Routines.{owner_at}
use Rattle.frame_load.proofs.Marks.{jumps_by}
use Rattle.frame_load.proofs.checks.jumps_well.Goals as goal

pub returns-then-brackets-target : goal.returns-then-brackets-target
returns-then-brackets-target c =
    let os = c.args.operations.now in
    let inside : c.args.target < length os = omega arith in
    let later : c.args.place < c.args.target = omega arith in
    let t : get_or c.args.routines.now c.args.target 0 ≡ owner_at os c.args.target = c.requires.numbered c.args.target inside in
    let p : get_or c.args.routines.now c.args.place 0 ≡ owner_at os c.args.place = c.requires.numbered c.args.place c.requires.place in (
      λ y. (
        later,
        inside,
        jumps_by os c.args.brackets.now c.args.place c.args.target c.requires.marked c.requires.place inside (let e : get_or c.args.brackets.now c.args.target 0 ≡ get_or c.args.brackets.now c.args.place 0 = search rules in e),
        (let e : get_or c.args.routines.now c.args.target 0 ≡ get_or c.args.routines.now c.args.place 0 = search rules in sym t ∙ e ∙ p),
      ),
      λ j. let e : get_or c.args.routines.now c.args.target 0 ≡ get_or c.args.routines.now c.args.place 0 = t ∙ j.3 ∙ sym p in search rules,
    )
