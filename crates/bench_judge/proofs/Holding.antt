-- A number of each channel, when one is put.
use Rattle.std.proofs.Common.{◌≡◌, ℕ, cond, refl, ◌∙◌}
use Rattle.std.specs.Prelude.{Bool, true, false, ◌&&◌, ◌==◌, nat_eq, Option, None, Some, is_some}
use Rattle.std.specs.HashMap.{get}
use Rattle.std.proofs.lemmas.Bool.{eqb-true}
use Rattle.bench_judge.specs.declared.kept.Kept.{Kept}
use Rattle.bench_judge.specs.Kept.{is_at, kept}

and_first : (a b : Bool) → (a && b) ≡ true → a ≡ true
and_first true b is = refl
and_first false b is = cc

-- the number of the channel at hand is another one
pub put_here : (old next : Kept) (channel value other : ℕ) → is_at old channel ≡ true → next.channel ≡ old.channel → next.value ≡ Some value → next.others ≡ old.others → kept next other ≡ cond (channel == other) (Some value) (kept old other)
put_here old next channel value other here same has others =
    let at : old.channel ≡ channel = eqb-true old.channel channel (and_first (old.channel == channel) (is_some old.value) here) in
    rw (same, has, others, at) (go (channel == other))
  where
    go : (b : Bool) → cond (b && true) (Some value) (get nat_eq old.others other) ≡ cond b (Some value) (cond (b && is_some old.value) old.value (get nat_eq old.others other))
    go true = refl
    go false = refl

-- another channel is at hand now, and the number that was is one of the others
pub put_there : (old mid next : Kept) (channel value other : ℕ) → ((k : ℕ) → get nat_eq mid.others k ≡ kept old k) → next.channel ≡ channel → next.value ≡ Some value → next.others ≡ mid.others → kept next other ≡ cond (channel == other) (Some value) (kept old other)
put_there old mid next channel value other left now has others = rw (now, has, others) (go (channel == other))
  where
    go : (b : Bool) → cond (b && true) (Some value) (get nat_eq mid.others other) ≡ cond b (Some value) (kept old other)
    go true = refl
    go false = left other

-- the number at hand was put to the others, or there was none
pub left_some : (old : Kept) (value other : ℕ) (found : Option ℕ) → old.value ≡ Some value → found ≡ cond (old.channel == other) (Some value) (get nat_eq old.others other) → found ≡ kept old other
left_some old value other found has is = is ∙ (rw has (go (old.channel == other)))
  where
    go : (b : Bool) → cond b (Some value) (get nat_eq old.others other) ≡ cond (b && true) (Some value) (get nat_eq old.others other)
    go true = refl
    go false = refl

pub left_none : (old : Kept) (other : ℕ) → old.value ≡ None → get nat_eq old.others other ≡ kept old other
left_none old other none = rw none (go (old.channel == other))
  where
    go : (b : Bool) → get nat_eq old.others other ≡ cond (b && false) None (get nat_eq old.others other)
    go true = refl
    go false = refl
