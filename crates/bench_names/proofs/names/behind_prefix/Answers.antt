use Rattle.std.proofs.lemmas.Slice.Eq.{strip_prefix_is}
use Rattle.std.proofs.lemmas.Bool.Decides.{Decides-eqb}
use Rattle.bench_names.proofs.names.behind_prefix.Goals as goal

-- src/names.rt:144:1
pub returns : goal.returns
returns c = strip_prefix_is Decides-eqb c.args.name.now c.args.prefix.now c.strip_prefix.result c.strip_prefix.ensures.cases
