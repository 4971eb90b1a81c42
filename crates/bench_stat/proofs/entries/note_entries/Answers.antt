use Rattle.std.proofs.Common.{◌∷◌, List, Bool, ap, sym, subst, ◌∙◌}
use Rattle.bench_stat.specs.declared.sendings.Sending.{Sending}
use Rattle.bench_stat.specs.declared.flows.Flow.{Flow}
use Rattle.bench_stat.specs.Sendings.{sending_of}
use Rattle.bench_stat.specs.Entries.{is_same, is_first_failed, with_choice, AreEntries}
use Rattle.bench_stat.proofs.Following.{entries_same, entries_apart}
use Rattle.bench_stat.proofs.entries.note_entries.Goals as goal

pub returns-then-is_same : goal.returns-then-is_same
returns-then-is_same c = λ history are.
    let m = c.args.view.now in
    let first = c.note_choice.ensures ∙ ap (λ (f : Bool). with_choice c.of-sending.result.first f m c.args.entries.now) c.is_first_failed-failed.ensures
    ∙ ap (λ (s : Sending). with_choice s.first (is_first_failed s) m c.args.entries.now) c.of-sending.ensures in
    subst (λ (fs : List Flow). AreEntries (m ∷ history) fs) (sym first)
    (entries_same m history c.args.entries.now (ap (λ (s : Sending). is_same s.first s.second) (sym c.of-sending.ensures) ∙ sym c.is_same.ensures ∙ c.if-is_same.true) are)

pub returns : goal.returns
returns c = λ history are.
    let m = c.args.view.now in
    let first = c.note_choice.ensures ∙ ap (λ (f : Bool). with_choice c.of-sending.result.first f m c.args.entries.now) c.is_first_failed-failed.ensures
    ∙ ap (λ (s : Sending). with_choice s.first (is_first_failed s) m c.args.entries.now) c.of-sending.ensures in
    let both = c.note_choice-2.ensures ∙ ap (λ (s : Sending). with_choice s.second s.sender_failed m c.note_choice.new.entries) c.of-sending.ensures in
    subst (λ (fs : List Flow). AreEntries (m ∷ history) fs) (sym (both ∙ ap (λ (fs : List Flow). with_choice (sending_of m).second (sending_of m).sender_failed m fs) first))
    (entries_apart m history c.args.entries.now (ap (λ (s : Sending). is_same s.first s.second) (sym c.of-sending.ensures) ∙ sym c.is_same.ensures ∙ c.if-is_same.false) are)
