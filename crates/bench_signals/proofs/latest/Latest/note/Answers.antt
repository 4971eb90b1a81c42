use Rattle.std.proofs.Common.{◌∙◌, sym, refl, arith}
use Rattle.bench_signals.specs.Latest.{kept_at}
use Rattle.bench_signals.proofs.Noted.{is_kept, put_noted}
use Rattle.bench_signals.proofs.latest.Latest.note.Goals as goal

pub returns-then-same-clause-kept : goal.returns-then-same-clause-kept
returns-then-same-clause-kept c = record {
  kept = is_kept c.args.text.now (kept_at c.args.self.now c.args.signal c.args.channel) (sym c.if-same.true ∙ rw c.key_of-key.ensures at c.is_latest-same.ensures);
  others = λ i n small other. refl;
}

pub returns-clause-kept : goal.returns-clause-kept
returns-clause-kept c = put_noted c.args.signal c.args.channel c.args.text.now c.in_ok-copy.copy _ _ (rw c.key_of-key.ensures at c.in_ok-insert.ensures.updates.0) c.in_ok-copy.ensures.items (omega arith)
