use Rattle.std.proofs.Common.{◌<◌, ◌∙◌, length, drop, arith, sym, ap}
use Rattle.std.proofs.lemmas.Bool.{eqb-false}
use Rattle.std.proofs.lemmas.List.{length-drop}
use Rattle.bench_names.proofs.Finding.{first_of}
use Rattle.bench_names.proofs.attributes.first_attribute.Goals as goal

-- src/attributes.rt:65:1
pub returns-clause-attributes : goal.returns-clause-attributes
returns-clause-attributes c =
    let some : 0 < length c.args.text.now = omega (arith, eqb-false (length c.args.text.now) 0 (sym c.is_empty.ensures ∙ c.if-is_empty.false)) in
    rw (c.parted.ensures.behind, c.unblanked.ensures, c.parted-2.ensures.front, c.parted-2.ensures.behind, c.place_of-2.ensures.value, c.parted.ensures.front, c.place_of.ensures.value) (first_of c.args.text.now some)

-- src/attributes.rt:65:1
pub returns-clause-shorter : goal.returns-clause-shorter
returns-clause-shorter c =
    omega (arith, eqb-false (length c.args.text.now) 0 (sym c.is_empty.ensures ∙ c.if-is_empty.false), ap length c.parted.ensures.behind, length-drop 1 (drop c.place_of.result c.args.text.now), length-drop c.place_of.result c.args.text.now)
