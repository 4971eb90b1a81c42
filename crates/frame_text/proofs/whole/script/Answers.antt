use Rattle.std.proofs.Common.{[], arith, ap, sym, ◌∙◌, subst}
use Rattle.frame_text.specs.Tokens.{tokens}
use Rattle.frame_text.specs.Frames.{script_at}
use Rattle.frame_text.specs.declared.faults.Cause.TheVariants as cause
use Rattle.frame_text.proofs.Scripts.{breaks_with}
use Rattle.frame_text.proofs.Defining.{no_names, too_many, few_enough}
use Rattle.frame_text.proofs.Soundness.{script_is_sound}
use Rattle.frame_text.proofs.TreesRead.{script_read}
use Rattle.frame_text.proofs.whole.script.Goals as goal

pub returns-then-messages-gt1000000-clause-tree : goal.returns-then-messages-gt1000000-clause-tree
returns-then-messages-gt1000000-clause-tree g c =
    let ts = tokens c.args.text.now in
    let t = g.B.Builder.tree c.in_ok-frame.frame in
    let is = ap (λ ds. script_at 32 ds ts) (sym no_names) ∙ c.in_ok-frame.ensures.tree in
    let many = c.messages.ensures.whole (subst (λ ds. g.B.Builder.fits ds ds c.in_ok-frame.frame) no_names c.in_ok-frame.ensures.fits) in
    breaks_with _ c.fault.result cause.Messages ts _ c.fault.ensures.is (too_many ts (script_at 32 [] ts) t is (omega (arith, many, c.if-messages-gt1000000.true)))

pub returns-clause-tree : goal.returns-clause-tree
returns-clause-tree g c =
    let ts = tokens c.args.text.now in
    let t = g.B.Builder.tree c.in_ok-frame.frame in
    let is = ap (λ ds. script_at 32 ds ts) (sym no_names) ∙ c.in_ok-frame.ensures.tree in
    let few = c.messages.ensures.whole (subst (λ ds. g.B.Builder.fits ds ds c.in_ok-frame.frame) no_names c.in_ok-frame.ensures.fits) in
    few_enough ts (script_at 32 [] ts) t is (omega (arith, few, c.if-messages-gt1000000.false))

pub returns-clause-sound : goal.returns-clause-sound
returns-clause-sound g c =
    let t = g.B.Builder.tree c.in_ok-frame.frame in
    let few = c.messages.ensures.whole (subst (λ ds. g.B.Builder.fits ds ds c.in_ok-frame.frame) no_names c.in_ok-frame.ensures.fits) in
    script_is_sound (tokens c.args.text.now) t (ap (λ ds. script_at 32 ds (tokens c.args.text.now)) (sym no_names) ∙ c.in_ok-frame.ensures.tree) (omega (arith, few, c.if-messages-gt1000000.false))

pub returns-clause-script : goal.returns-clause-script
returns-clause-script g c =
    script_read 32 [] (tokens c.args.text.now) (g.B.Builder.tree c.in_ok-frame.frame) (ap (λ ds. script_at 32 ds (tokens c.args.text.now)) (sym no_names) ∙ c.in_ok-frame.ensures.tree)
