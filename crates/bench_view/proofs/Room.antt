-- One more message of a page on the way.
use Rattle.std.proofs.Common.{◌≡◌, ◌≤◌, ◌<◌, ◌⊎◌, inl, inr, ℕ, zero, suc, ◌+◌, ◌-◌, Bool, true, false, List, [], ◌∷◌, ◌++◌, length, take, refl, sym, ap, ◌∙◌, subst, append_assoc, append-nil, add-one, arith, length-append, cond, filter, reverse}
use Rattle.std.proofs.lemmas.List.{reverse-append, take_all}
use Rattle.std.proofs.lemmas.Grind.{flat_map-append}
use Rattle.signal_dictionary.specs.declared.signals.Signal.{Signal}
use Rattle.ch11_reader.specs.Contents.{count_in}
use Rattle.bench_decode.specs.ByTime.{Told, chosen, is_chosen, told}
use Rattle.bench_select.specs.Selecting.{selects}
use Rattle.bench_select.specs.Viewed.{channels_of, Viewed}
use Rattle.bench_select.specs.declared.selection.Selection.{Selection}
use Rattle.bench_view.specs.Filling.{HasNone, HasRoom, IsFilled, IsShut}
use Rattle.bench_view.specs.Lines.{line_text, lines_text}
use Rattle.bench_view.specs.Pages.{most_messages, most_bytes}
use Rattle.bench_view.specs.declared.filling.Filling.{Filling}

pub front_of : (ts : List Told) (t : Told) (k : ℕ) → k ≤ length ts → take k (ts ++ t ∷ []) ≡ take k ts
front_of ts t zero within = refl
front_of [] t (suc k) within = absurd (omega (arith, within))
front_of (x ∷ ts) t (suc k) within = ap (λ (l : List Told). x ∷ l) (front_of ts t k (omega (arith, within)))

clash : (b : Bool) → b ≡ true → b ≡ false → ⊥
clash true a c = absurd cc
clash false a c = absurd cc

-- a message behind a history
abbrev pub told_behind : List Viewed → Viewed → Told
told_behind history v = record {
  number = length history + 1;
  channel = v.0;
  in_channel = count_in v.0 (channels_of history) + 1;
  message = v.1;
}

longer : (ts : List Told) (t : Told) → length (ts ++ t ∷ []) ≡ length ts + 1
longer ts t = length-append ts (t ∷ [])

pub one_line : (signals : List Signal) (ts : List Told) (t : Told) → lines_text signals (ts ++ t ∷ []) ≡ lines_text signals ts ++ line_text signals t
one_line signals ts t = flat_map-append (line_text signals) ts (t ∷ []) ∙ ap (λ (l : List ℕ). lines_text signals ts ++ l) (append-nil (line_text signals t))

whole_of : (ts : List Told) (k : ℕ) → k ≡ length ts → take k ts ≡ ts
whole_of ts k is = take_all k ts (omega (arith, is))

-- the page was full
pub still_full : (front : List ℕ) (signals : List Signal) (ts : List Told) (t : Told) (f g : Filling) → IsFilled front signals ts f → f.full ≡ true
    → g.chosen ≡ f.chosen + 1 → g.text ≡ f.text → g.size ≡ f.size → g.shown ≡ f.shown → g.full ≡ true → IsFilled front signals (ts ++ t ∷ []) g
still_full front signals ts t f g is full chosen text size shown shut =
    let s = is.shut full in
    let same : take f.shown (ts ++ t ∷ []) ≡ take f.shown ts = front_of ts t f.shown (omega (arith, s.below)) in
    let next : take (f.shown + 1) (ts ++ t ∷ []) ≡ take (f.shown + 1) ts = front_of ts t (f.shown + 1) (omega (arith, s.below)) in
    record {
      chosen = omega (arith, chosen, is.chosen, longer ts t);
      text = ap (λ x. x.items) text ∙ is.text ∙ ap (λ (l : List Told). front ++ lines_text signals l) (sym same ∙ ap (λ (k : ℕ). take k (ts ++ t ∷ [])) (sym shown));
      size = size ∙ is.size ∙ ap (λ (l : List Told). length (lines_text signals l)) (sym same ∙ ap (λ (k : ℕ). take k (ts ++ t ∷ [])) (sym shown));
      small = omega (arith, size, is.small);
      few = omega (arith, shown, is.few);
      whole = λ none. absurd (clash g.full shut none);
      shut = λ now. record {
        below = omega (arith, shown, s.below, longer ts t);
        because = subst (λ (k : ℕ). (k ≡ most_messages) ⊎ (most_bytes < length (lines_text signals (take (k + 1) (ts ++ t ∷ []))))) (sym shown) (elim s.because [
          | inl e ↦ inl e
          | inr e ↦ inr (subst (λ (l : List Told). most_bytes < length (lines_text signals l)) (sym next) e)
        ]);
      };
    }

-- a message has no room behind all others
pub now_full : (front : List ℕ) (signals : List Signal) (ts : List Told) (t : Told) (f g : Filling) (line : ℕ) → IsFilled front signals ts f → f.full ≡ false → line ≡ length (line_text signals t) → HasNone f.shown f.size line
    → g.chosen ≡ f.chosen + 1 → g.text ≡ f.text → g.size ≡ f.size → g.shown ≡ f.shown → g.full ≡ true → IsFilled front signals (ts ++ t ∷ []) g
now_full front signals ts t f g line is clear made none chosen text size shown shut =
    let all : f.shown ≡ length ts = is.whole clear in
    let same : take f.shown (ts ++ t ∷ []) ≡ take f.shown ts = front_of ts t f.shown (omega (arith, all)) in
    let next : take (f.shown + 1) (ts ++ t ∷ []) ≡ ts ++ t ∷ [] = whole_of (ts ++ t ∷ []) (f.shown + 1) (omega (arith, all, longer ts t)) in
    let put : f.size ≡ length (lines_text signals ts) = is.size ∙ ap (λ (l : List Told). length (lines_text signals l)) (whole_of ts f.shown all) in
    let long : length (lines_text signals (ts ++ t ∷ [])) ≡ f.size + line =
    ap length (one_line signals ts t) ∙ omega (arith, length-append (lines_text signals ts) (line_text signals t), put, made) in
    record {
      chosen = omega (arith, chosen, is.chosen, longer ts t);
      text = ap (λ x. x.items) text ∙ is.text ∙ ap (λ (l : List Told). front ++ lines_text signals l) (sym same ∙ ap (λ (k : ℕ). take k (ts ++ t ∷ [])) (sym shown));
      size = size ∙ is.size ∙ ap (λ (l : List Told). length (lines_text signals l)) (sym same ∙ ap (λ (k : ℕ). take k (ts ++ t ∷ [])) (sym shown));
      small = omega (arith, size, is.small);
      few = omega (arith, shown, is.few);
      whole = λ none. absurd (clash g.full shut none);
      shut = λ now. record {
        below = omega (arith, shown, all, longer ts t);
        because = elim none [
          | inl most ↦ inl (omega (arith, shown, most, is.few))
          | inr over ↦ inr (subst (λ (k : ℕ). most_bytes < length (lines_text signals (take (k + 1) (ts ++ t ∷ [])))) (sym shown)
              (subst (λ (l : List Told). most_bytes < length (lines_text signals l)) (sym next) (omega (arith, long, over))))
        ];
      };
    }

-- its line was put
pub one_more : (front : List ℕ) (signals : List Signal) (ts : List Told) (t : Told) (f g : Filling) (line : List ℕ) → IsFilled front signals ts f → f.full ≡ false → line ≡ line_text signals t → HasRoom f.shown f.size (length line)
    → g.chosen ≡ f.chosen + 1 → g.text.items ≡ f.text.items ++ line → g.size ≡ f.size + length line → g.shown ≡ f.shown + 1 → g.full ≡ false → IsFilled front signals (ts ++ t ∷ []) g
one_more front signals ts t f g line is clear made room chosen text size shown still =
    let all : f.shown ≡ length ts = is.whole clear in
    let next : take g.shown (ts ++ t ∷ []) ≡ ts ++ t ∷ [] = whole_of (ts ++ t ∷ []) g.shown (omega (arith, shown, all, longer ts t)) in
    let before : take f.shown ts ≡ ts = whole_of ts f.shown all in
    let put : f.size ≡ length (lines_text signals ts) = is.size ∙ ap (λ (l : List Told). length (lines_text signals l)) before in
    let grown : lines_text signals (take g.shown (ts ++ t ∷ [])) ≡ lines_text signals ts ++ line =
    ap (lines_text signals) next ∙ one_line signals ts t ∙ ap (λ (l : List ℕ). lines_text signals ts ++ l) (sym made) in
    record {
      chosen = omega (arith, chosen, is.chosen, longer ts t);
      text = text ∙ ap (λ (l : List ℕ). l ++ line) (is.text ∙ ap (λ (l : List Told). front ++ lines_text signals l) before) ∙ append_assoc front (lines_text signals ts) line ∙ ap (λ (l : List ℕ). front ++ l) (sym grown);
      size = omega (arith, size, put, ap length grown, length-append (lines_text signals ts) line);
      small = omega (arith, size, room.1);
      few = omega (arith, shown, room.0);
      whole = λ none. omega (arith, shown, all, longer ts t);
      shut = λ now. absurd (clash g.full now still);
    }

-- the numbers of messages in their channels are kept beside
pub renumbered : (front : List ℕ) (signals : List Signal) (ts : List Told) (f g : Filling) → IsFilled front signals ts f → g.chosen ≡ f.chosen → g.text ≡ f.text → g.size ≡ f.size → g.shown ≡ f.shown → g.full ≡ f.full
    → IsFilled front signals ts g
renumbered front signals ts f g is chosen text size shown full = record {
  chosen = chosen ∙ is.chosen;
  text = ap (λ x. x.items) text ∙ is.text ∙ ap (λ (k : ℕ). front ++ lines_text signals (take k ts)) (sym shown);
  size = size ∙ is.size ∙ ap (λ (k : ℕ). length (lines_text signals (take k ts))) (sym shown);
  small = omega (arith, size, is.small);
  few = omega (arith, shown, is.few);
  whole = λ none. shown ∙ is.whole (sym full ∙ none);
  shut = λ now. subst (λ (k : ℕ). IsShut signals ts k) (sym shown) (is.shut (sym full ∙ now));
}

-- one more message that is chosen
pub chosen_more : (s : Selection) (history : List Viewed) (v : Viewed) (number : ℕ) → number ≡ length history + 1 → selects s number v.0 v.1 ≡ true
    → chosen s (v ∷ history) ≡ chosen s history ++ told_behind history v ∷ []
chosen_more s history v number is this =
    let earlier = filter (is_chosen s) (told history) in
    ap (λ (b : Bool). reverse (cond b (told_behind history v ∷ earlier) earlier)) (ap (λ (n : ℕ). selects s n v.0 v.1) (sym is) ∙ this)
    ∙ reverse-append (told_behind history v ∷ []) earlier
