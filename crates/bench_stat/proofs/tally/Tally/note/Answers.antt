use Rattle.std.proofs.Common.{◌≡◌, ℕ, ◌+◌, ◌∷◌, ◌++◌, Bool, ap, sym, ◌∙◌}
use Rattle.std.proofs.lemmas.List.Concat.{flat_map-cons}
use Rattle.ch11_layout.specs.Layouts.{first_gap}
use Rattle.ch11_reader.specs.Contents.{capped}
use Rattle.bench_stat.specs.declared.sendings.Sending.{Sending}
use Rattle.bench_stat.specs.declared.tally.Tally.{Tally}
use Rattle.bench_stat.specs.Figures.{one_if, traffic_of, errors_of, retries, terminals_of}
use Rattle.bench_stat.specs.Sendings.{calls, calls_of, calls_sent, is_retry_behind, latest, sending_of}
use Rattle.bench_stat.specs.Steps.{with_errors}
use Rattle.bench_stat.proofs.Counting.{capped_more}
use Rattle.bench_stat.proofs.Following.{errors_more}
use Rattle.bench_stat.proofs.tally.Tally.note.Goals as goal

pub returns : goal.returns
returns c = λ channel history same.
    let m = c.args.view.now in
    let number : c.args.self.now.figures.channel ≡ channel = ap (λ (t : Tally). t.figures.channel) same in
    let traffic : c.note.new.self ≡ traffic_of (m ∷ history) = c.note.ensures history (ap (λ (t : Tally). t.figures.traffic) same) in
    let errors : c.note-2.new.self ≡ errors_of (m ∷ history) = c.note-2.ensures ∙ ap (λ (t : Tally). with_errors m t.figures.errors) same ∙ errors_more m history in
    let again : c.counted-self.result ≡ capped (retries (m ∷ history)) =
    c.counted-self.ensures ∙ ap (λ (b : Bool). capped (c.args.self.now.figures.retries + one_if b)) c.is_retry.ensures
    ∙ ap (λ (s : Sending). capped (c.args.self.now.figures.retries + one_if (is_retry_behind c.args.self.now.latest s))) c.of-sending.ensures
    ∙ ap (λ (t : Tally). capped (t.figures.retries + one_if (is_retry_behind t.latest (sending_of m)))) same ∙ capped_more (retries history) (one_if (is_retry_behind (latest history) (sending_of m))) in
    let called : c.note_calls.new.terminals ≡ terminals_of (calls (m ∷ history)) =
    c.note_calls.ensures (calls history) (ap (λ (t : Tally). t.figures.terminals) same)
    ∙ ap (λ (s : Sending). terminals_of (calls_sent s c.first_gap.result c.second_gap.result ++ calls history)) c.of-sending.ensures
    ∙ ap (λ (n : ℕ). terminals_of (calls_sent (sending_of m) n c.second_gap.result ++ calls history)) c.first_gap.ensures
    ∙ ap (λ (n : ℕ). terminals_of (calls_sent (sending_of m) (first_gap m) n ++ calls history)) c.second_gap.ensures ∙ ap terminals_of (sym (flat_map-cons calls_of m history)) in
    let sent = c.of-sending.ensures in
    cc
