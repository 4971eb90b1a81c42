use Rattle.std.proofs.Common.{take, sym, ap, ◌∙◌, append-nil}
use Rattle.std.proofs.lemmas.List.{take_all}
use Rattle.mil_line.proofs.Places.{one_copy_more}
use Rattle.mil_line.proofs.on_line.put_copies.Goals as goal

pub loop-copy-init : goal.loop-copy-init
loop-copy-init c = record {
  items = sym (ap (take c.args.room) (append-nil c.args.words.now.items) ∙ take_all c.args.room c.args.words.now.items c.requires.within);
  within = c.requires.within;
}

pub loop-copy-preserved : goal.loop-copy-preserved
loop-copy-preserved c = record {
  items = c.put.ensures.items ∙ one_copy_more c.args.room c.loop-copy._copy c.args.wave c.args.words.now.items c.loop-copy.words.items c.at_once.result c.at_once.ensures c.loop-copy.invariant.items;
  within = c.put.ensures.within;
}
