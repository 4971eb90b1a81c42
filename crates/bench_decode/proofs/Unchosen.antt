-- One more message that is not chosen.
use Rattle.std.proofs.Common.{◌≡◌, ℕ, ◌+◌, Bool, false, cond, List, ◌∷◌, length, reverse, filter, sym, ap, ◌∙◌}
use Rattle.ch11_reader.specs.Contents.{count_in}
use Rattle.bench_select.specs.Viewed.{channels_of, Viewed}
use Rattle.bench_select.specs.declared.selection.Selection.{Selection}
use Rattle.bench_select.specs.Selecting.{selects}
use Rattle.bench_decode.specs.ByTime.{Told, chosen, is_chosen, told}

pub unchosen_more : (s : Selection) (history : List Viewed) (v : Viewed) (number : ℕ) → number ≡ length history + 1 → selects s number v.0 v.1 ≡ false
    → chosen s (v ∷ history) ≡ chosen s history
unchosen_more s history v number is other =
    let one : Told = record { number = length history + 1; channel = v.0; in_channel = count_in v.0 (channels_of history) + 1; message = v.1 } in
    let earlier = filter (is_chosen s) (told history) in
    ap (λ (b : Bool). reverse (cond b (one ∷ earlier) earlier)) (ap (λ (n : ℕ). selects s n v.0 v.1) (sym is) ∙ other)
