use Rattle.std.proofs.Common.{◌≡◌, ◌<◌, ◌∙◌, ◌∷◌, length, arith}
use Rattle.std.specs.Prelude.{Some, slice_get}
use Rattle.std.proofs.Math.ListN.{length-set}
use Rattle.std.proofs.lemmas.Option.{slice_get-get_or}
use Rattle.bench_judge.proofs.Passing.{found_there, noting-none, noting-more, noting-all}
use Rattle.bench_judge.proofs.judging.note_message.Goals as goal

pub rules-init : goal.rules-init
rules-init g c = record {
  known = tt;
  many = c.requires;
  noting = λ history are small.
      noting-none (λ rule. g.T.Tallied.is_tally rule c.args.origins.now history) (λ rule. g.T.Tallied.is_tally rule c.args.origins.now ((c.args.channel, c.args.view.now) ∷ history)) _ _ are.many are.each;
}

pub rules-preserved : goal.rules-preserved
rules-preserved g c =
    let within : c.rules.place < length c.args.rules.now = omega arith in
    let inside : c.rules.place < length c.rules.tallies = omega (arith, c.rules.invariant.many, within) in
    let asked : slice_get c.args.rules.now c.rules.place ≡ Some c.index-rules-place.result = found_there c.args.rules.now c.rules.place c.index-rules-place.result within c.index-rules-place.is in
    record {
      known = c.note.ensures.known;
      many = length-set c.rules.tallies c.rules.place c.note.new.tally ∙ c.rules.invariant.many;
      noting = λ history are small.
          let noting = c.rules.invariant.noting history are small in
          noting-more (λ rule. g.T.Tallied.is_tally rule c.args.origins.now history) (λ rule. g.T.Tallied.is_tally rule c.args.origins.now ((c.args.channel, c.args.view.now) ∷ history)) _ _ c.rules.place c.index-rules-place.result c.note.new.tally noting asked
          (c.in_ok-note.ensures.noted history (noting.rest c.rules.place c.index-rules-place.result _ (omega arith) asked (slice_get-get_or c.rules.tallies c.rules.place _ inside)) small);
    }

pub returns : goal.returns
returns g c = λ history are small. record {
  many = c.rules.invariant.many;
  each = noting-all (λ rule. g.T.Tallied.is_tally rule c.args.origins.now history) (λ rule. g.T.Tallied.is_tally rule c.args.origins.now ((c.args.channel, c.args.view.now) ∷ history)) _ _ c.rules.place (omega arith) (c.rules.invariant.noting history are small);
}
