use Rattle.bench_decode.proofs.AllChosen.{all_are}
use Rattle.bench_decode.proofs.printing.is_selected.Goals as goal

pub returns-then-all : goal.returns-then-all
returns-then-all c = all_are c.args.output.now.selection c.args.number c.args.channel c.args.view.now c.args.all c.requires c.if-all.true
