use Rattle.bench_export.specs.Waves.{code_line, signal_text, value_text}
use Rattle.std.proofs.Common.{[], ◌∷◌}
use Rattle.bench_export.proofs.Putting.{signal_put}
use Rattle.bench_export.proofs.signals.put_signal.Goals as goal

pub returns-clause-put : goal.returns-clause-put
unfolding signal_text
returns-clause-put c =
    signal_put _ _ _ _ _ (code_line (c.args.letter ∷ []) c.args.wire.on_b c.args.wire.channel) (value_text c.args.value) c.put_code-end.ensures.put c.put_byte-end.ensures.put c.put_value-end.ensures.put c.put_byte.ensures.put
