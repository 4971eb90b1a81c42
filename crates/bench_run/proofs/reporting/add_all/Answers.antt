use Rattle.std.proofs.Common.{◌≡◌, ◌++◌, ◌∷◌, [], length, take, append-nil, append_assoc, refl, sym, ap, ◌∙◌, arith}
use Rattle.std.specs.Prelude.{Some, slice_get}
use Rattle.std.proofs.lemmas.List.{take_all}
use Rattle.std.proofs.lemmas.Option.{slice_get_read}
use Rattle.bench_settings.specs.Placing.{placed_up_to}
use Rattle.bench_run.proofs.Offering.{take_more}
use Rattle.bench_run.proofs.reporting.add_all.Goals as goal

pub loop-place-init : goal.loop-place-init
loop-place-init c = record {
  listed = λ actions is. is ∙ ap (placed_up_to 1000000) (sym (append-nil actions));
  fit = c.requires;
}

pub loop-place-preserved : goal.loop-place-preserved
loop-place-preserved c =
    let more = c.args.more.now in
    let n = c.loop-place.place in
    let x = c.get.result in
    let at : slice_get more n ≡ Some x = slice_get_read more (length more) n x refl (omega (arith, c.len-place-end.ensures)) c.get.ensures in
    record {
      listed = λ actions is. c.in_ok-add_one.ensures.listed (actions ++ take n more) (c.loop-place.invariant.listed actions is)
          ∙ ap (placed_up_to 1000000) (append_assoc actions (take n more) (x ∷ []) ∙ ap (λ l. actions ++ l) (sym (take_more n more x at)));
      fit = c.in_ok-add_one.ensures.fit;
    }

pub returns-clause-listed : goal.returns-clause-listed
returns-clause-listed c actions is =
    let more = c.args.more.now in
    c.loop-place.invariant.listed actions is ∙ ap (λ l. placed_up_to 1000000 (actions ++ l)) (take_all c.loop-place.place more (omega (arith, c.len-place-end.ensures)))
