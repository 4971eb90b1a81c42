-- The text of a value change dump that was written so far.
use Rattle.std.proofs.Common.{◌≡◌, ℕ, zero, suc, ◌+◌, ◌<◌, ◌≤◌, Bool, true, false, if◌then◌else◌, List, [], ◌∷◌, ◌++◌, length, take, drop, get_or, Option, None, refl, sym, ap, subst, ◌∙◌, append_assoc, add-one, drop-cons, arith}
use Rattle.std.specs.Io.KnownBytes.{Appends}
use Rattle.std.specs.Prelude.{codes}
use Rattle.std.proofs.lemmas.List.{append-nil, drop_all, take_all}
use Rattle.bench_dump.proofs.Steps.{appends_both, appends_nothing}
use Rattle.bench_export.specs.Merging.{AreShown, kept_at}
use Rattle.bench_export.specs.Showing.{shown_behind}
use Rattle.bench_export.specs.declared.changes.Change.{Change}
use Rattle.bench_export.specs.declared.lines.Shown.{Shown}
use Rattle.bench_export.specs.Waves.{has_channel, marked, ArePresent, channels_text, present_text, scope_text, idle_text, start_text, head_text, first_tick, notes, change_text, changes_text}

regroup : (t a b c d e : List ℕ) → ((((t ++ a) ++ b) ++ c) ++ d) ++ e ≡ t ++ (a ++ (b ++ (c ++ (d ++ e))))
regroup t a b c d e = simp append_assoc

-- no channel's text was put yet
pub no_channels : (got : List ℕ) (text : ℕ → List ℕ) (has : ℕ → Bool) → got ≡ got ++ channels_text text has 0
unfolding channels_text
no_channels got text has = sym (append-nil got)

-- one more channel, of which there is text, or none
pub channel_more : (got mid gets : List ℕ) (text : ℕ → List ℕ) (has : ℕ → Bool) (k : ℕ) → has k ≡ true → mid ≡ got ++ channels_text text has k
    → gets ≡ mid ++ text k → gets ≡ got ++ channels_text text has (k + 1)
unfolding channels_text
channel_more got mid gets text has k there a b =
    b ∙ ap (λ (l : List ℕ). l ++ text k) a ∙ append_assoc got (channels_text text has k) (text k)
    ∙ ap (λ (x : Bool). got ++ (channels_text text has k ++ (if x then text k else []))) (sym there)
    ∙ ap (λ (j : ℕ). got ++ channels_text text has j) (sym (add-one k))

pub channel_same : (got mid : List ℕ) (text : ℕ → List ℕ) (has : ℕ → Bool) (k : ℕ) → has k ≡ false → mid ≡ got ++ channels_text text has k
    → mid ≡ got ++ channels_text text has (k + 1)
unfolding channels_text
channel_same got mid text has k absent a =
    a ∙ ap (λ (l : List ℕ). got ++ l) (sym (append-nil (channels_text text has k)))
    ∙ ap (λ (x : Bool). got ++ (channels_text text has k ++ (if x then text k else []))) (sym absent)
    ∙ ap (λ (j : ℕ). got ++ channels_text text has j) (sym (add-one k))

-- tests that agree give the same texts
same_texts : (text : ℕ → List ℕ) (p q : ℕ → Bool) (n : ℕ) → ((k : ℕ) → k < n → p k ≡ q k) → channels_text text p n ≡ channels_text text q n
unfolding channels_text
same_texts text p q zero agree = refl
same_texts text p q (suc n) agree =
    ap (λ (l : List ℕ). l ++ (if p n then text n else [])) (same_texts text p q n (λ k less. agree k (omega arith)))
    ∙ ap (λ (x : Bool). channels_text text q n ++ (if x then text n else [])) (agree n (omega arith))

pub same_present : (text : ℕ → List ℕ) (marks : List Bool) (cs : List Change) → ArePresent marks cs → channels_text text (marked marks) 65536 ≡ present_text text cs
same_present text marks cs present = same_texts text (marked marks) (λ k. has_channel k cs) 65536 present

-- the parts of a head
pub head_put : (t0 t1 t2 t3 t4 t5 : List ℕ) (marks : List Bool) (cs : List Change) → ArePresent marks cs → t1 ≡ t0 ++ notes
    → t2 ≡ t1 ++ channels_text scope_text (marked marks) 65536 → t3 ≡ t2 ++ start_text (first_tick cs)
    → t4 ≡ t3 ++ channels_text idle_text (marked marks) 65536 → t5 ≡ t4 ++ codes "$end\n" → t5 ≡ t0 ++ head_text cs
unfolding head_text
head_put t0 t1 t2 t3 t4 t5 marks cs present e1 e2 e3 e4 e5 =
    e5 ∙ ap (λ (l : List ℕ). l ++ end) (e4 ∙ ap (λ (l : List ℕ). l ++ idles) (e3 ∙ ap (λ (l : List ℕ). l ++ start) (e2 ∙ ap (λ (l : List ℕ). l ++ scopes) e1)))
    ∙ regroup t0 notes scopes start idles end
    ∙ ap (λ (l : List ℕ). t0 ++ (notes ++ (l ++ (start ++ (idles ++ end))))) (same_present scope_text marks cs present)
    ∙ ap (λ (l : List ℕ). t0 ++ (notes ++ (present_text scope_text cs ++ (start ++ (l ++ end))))) (same_present idle_text marks cs present)
  where
    scopes : List ℕ
    scopes = channels_text scope_text (marked marks) 65536

    start : List ℕ
    start = start_text (first_tick cs)

    idles : List ℕ
    idles = channels_text idle_text (marked marks) 65536

    end : List ℕ
    end = codes "$end\n"

-- what a place past the end is read as
abbrev pub no_change : Change
no_change = record { tick = 0; channel = 0; on_b = false; driven = None; error = false }

-- the change at a place, and those behind it
pub split_at : (cs : List Change) (i : ℕ) (d : Change) → i < length cs → drop i cs ≡ get_or cs i d ∷ drop (i + 1) cs
split_at cs i d within = rw (add-one, drop-cons cs i d)

-- the changes before a place were written behind earlier ones, the last of them at a tick, and lines show what they do
pub record IsWriting (got gets : Option (List ℕ)) (first last place : ℕ) (lines : List Shown) (earlier cs : List Change) : Type 0 where
  pub more : List ℕ
  pub written : Appends got gets more
  pub shown : AreShown lines (earlier ++ take place cs)
  pub text : more ++ changes_text last (earlier ++ take place cs) (drop place cs) ≡ changes_text first earlier cs

pub begins : (got : Option (List ℕ)) (first : ℕ) (lines : List Shown) (earlier cs : List Change) → AreShown lines earlier → IsWriting got got first first 0 lines earlier cs
begins got first lines earlier cs shown = record {
  more = [];
  written = appends_nothing got;
  shown = rw (append-nil earlier) shown;
  text = rw (append-nil earlier) refl;
}

pub goes_on : (got mid gets : Option (List ℕ)) (first last place : ℕ) (lines after : List Shown) (earlier cs : List Change) (c : Change) → drop place cs ≡ c ∷ drop (place + 1) cs → take (place + 1) cs ≡ take place cs ++ c ∷ []
    → IsWriting got mid first last place lines earlier cs → Appends mid gets (change_text last (kept_at lines c.on_b c.channel) c)
    → ((so_far : List Change) → AreShown lines so_far → AreShown after (so_far ++ c ∷ [])) → IsWriting got gets first c.tick (place + 1) after earlier cs
goes_on got mid gets first last place lines after earlier cs c split front g one noted = record {
  more = g.more ++ told;
  written = appends_both got mid gets g.more told g.written (rw (g.shown c.on_b c.channel) at one);
  shown = subst (AreShown after) (sym behind) (noted so_far g.shown);
  text =
      append_assoc g.more told (changes_text c.tick (earlier ++ take (place + 1) cs) (drop (place + 1) cs))
      ∙ ap (λ (l : List Change). g.more ++ (told ++ changes_text c.tick l (drop (place + 1) cs))) behind
      ∙ ap (λ (l : List Change). g.more ++ changes_text last so_far l) (sym split) ∙ g.text;
}
  where
    so_far : List Change
    so_far = earlier ++ take place cs

    told : List ℕ
    told = change_text last (shown_behind c.on_b c.channel so_far) c

    behind : earlier ++ take (place + 1) cs ≡ so_far ++ c ∷ []
    behind = ap (λ (l : List Change). earlier ++ l) front ∙ sym (append_assoc earlier (take place cs) (c ∷ []))

pub ends : (got gets : Option (List ℕ)) (first last place : ℕ) (lines : List Shown) (earlier cs : List Change) → length cs ≤ place → IsWriting got gets first last place lines earlier cs → Appends got gets (changes_text first earlier cs)
ends got gets first last place lines earlier cs past g =
    subst (Appends got gets) (sym (append-nil g.more) ∙ ap (λ (l : List Change). g.more ++ changes_text last (earlier ++ take place cs) l) (sym (drop_all place cs past)) ∙ g.text) g.written

pub shown_all : (got gets : Option (List ℕ)) (first last place : ℕ) (lines : List Shown) (earlier cs : List Change) → length cs ≤ place → IsWriting got gets first last place lines earlier cs → AreShown lines (earlier ++ cs)
shown_all got gets first last place lines earlier cs past g = subst (λ (l : List Change). AreShown lines (earlier ++ l)) (take_all place cs past) g.shown
