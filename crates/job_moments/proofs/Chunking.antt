-- Chunks whose lines are the same, have a line more, or are as they must be.
use Rattle.std.proofs.Common.{◌≡◌, ℕ, suc, ◌+◌, ◌<◌, List, [], ◌∷◌, ◌++◌, length, get_or, set, take, drop, remove, All, Bool, false, refl, sym, ap, subst, ◌∙◌, arith, append_assoc}
use Rattle.std.proofs.lemmas.List.{append-nil, take_more, take_all, take_more_set, length-set}
use Rattle.std.specs.Prelude.{◌==◌, true, Some, slice_get, Result, Ok, Err}
use Rattle.std.specs.Result.{is_err}
use Rattle.std.proofs.lemmas.Bool.{eqb-true}
use Rattle.std.proofs.lemmas.List.Concat.{flat_map-append}
use Rattle.std.proofs.lemmas.List.Elements.{All-append, All-same, All-cons, All-nil, All-more, All-take, All-drop}
use Rattle.judge_rules.specs.declared.rules.Selector.{Selector}
use Rattle.job_moments.specs.declared.chunks.Chunk.{Chunk}
use Rattle.job_moments.specs.declared.met.Met.{Met}
use Rattle.job_moments.specs.declared.quiet.Quiet.{Quiet}
use Rattle.job_moments.specs.Chunks.{lines_in, lines_of, behind, Drops, Knows, Puts, StartsEmpty}
use Rattle.job_moments.specs.Counting.{Counted}
use Rattle.job_moments.specs.Quiet.{IsPart, IsQuiet, Sleeps}
use Rattle.job_moments.proofs.Joined.{all_front, all_rest, all_joined, all_pieces}
use Rattle.job_moments.proofs.Sleeping.{sleeps_unknown, sleeps_later, sleeps_part, sleeps_now}

module _ {L : Type 0} where
  -- ---- the lines of chunks

  pub lines_append : (xs ys : List (Chunk L)) → lines_of (xs ++ ys) ≡ lines_of xs ++ lines_of ys
  lines_append xs ys = flat_map-append lines_in xs ys

  -- ---- a line more

  pub puts_lines : (old new : List (Chunk L)) (more : List L) → Puts old new more → lines_of new ≡ lines_of old ++ more
  puts_lines old new more p =
      ap lines_of p.new_is ∙ lines_append p.front p.changed
      ∙ ap (λ (ls : List L). lines_of p.front ++ ls) p.lines
      ∙ sym (append_assoc (lines_of p.front) (lines_of p.rest) more)
      ∙ ap (λ (ls : List L). ls ++ more) (sym (ap lines_of p.old_is ∙ lines_append p.front p.rest))

  pub puts_known : (Stands : L → Type 0) (due : L → List Met → Met → Bool) (made : List Met) (old new : List (Chunk L)) (more : List L)
      → Puts old new more → All (Knows Stands due made) old → All Stands more → All (Knows Stands due made) new
  puts_known Stands due made old new more p known stand =
      let Kept = Knows Stands due made in
      let parts : All Kept (p.front ++ p.rest) = All-same Kept (p.front ++ p.rest) old (sym p.old_is) known in
      let front : All Kept p.front = all_front Kept p.front p.rest parts in
      let rest : All Kept p.rest = all_rest Kept p.front p.rest parts in
      let before : All Stands (lines_of p.rest) = all_joined lines_in Stands p.rest (λ k d lt. (rest k d lt).stand) in
      let lines : All Stands (lines_of p.changed) =
      All-same Stands (lines_of p.changed) (lines_of p.rest ++ more) p.lines (All-append Stands (lines_of p.rest) more before stand) in
      let changed : All Kept p.changed = λ k d lt. record {
        stand = all_pieces lines_in Stands p.changed lines k d lt;
        sleeps = λ j e within. sleeps_unknown (get_or p.changed k d).quiet made (due (get_or (lines_in (get_or p.changed k d)) j e)) (p.unknown k d lt);
      } in
      All-same Kept new (p.front ++ p.changed) p.new_is (All-append Kept p.front p.changed front changed)

  -- nothing was put, or a new chunk, or a line into the last one
  pub puts_none : (old new : List (Chunk L)) → new ≡ old → Puts old new []
  puts_none old new same = record {
    front = old;
    rest = [];
    changed = [];
    old_is = sym (append-nil old);
    new_is = same ∙ sym (append-nil old);
    lines = refl;
    unknown = All-nil (λ (c : Chunk L). c.quiet.wake ≡ 0);
  }

  pub puts_new : (old new : List (Chunk L)) (chunk : Chunk L) (more : List L) → new ≡ old ++ chunk ∷ []
      → lines_in chunk ≡ more → chunk.quiet.wake ≡ 0 → Puts old new more
  puts_new old new chunk more is lines none = record {
    front = old;
    rest = [];
    changed = chunk ∷ [];
    old_is = sym (append-nil old);
    new_is = is;
    lines = append-nil (lines_in chunk) ∙ lines;
    unknown = All-cons (λ (c : Chunk L). c.quiet.wake ≡ 0) chunk [] none (All-nil (λ (c : Chunk L). c.quiet.wake ≡ 0));
  }

  pub puts_last : (old new : List (Chunk L)) (last : ℕ) (e after : Chunk L) (more : List L) → last + 1 ≡ length old
      → new ≡ set old last after → lines_in after ≡ lines_in (get_or old last e) ++ more → after.quiet.wake ≡ 0 → Puts old new more
  puts_last old new last e after more ends is lines none = record {
    front = take last old;
    rest = get_or old last e ∷ [];
    changed = after ∷ [];
    old_is = sym (take_all (last + 1) old (omega (arith, ends))) ∙ take_more old last e (omega (arith, ends));
    new_is = is ∙ sym (take_all (last + 1) (set old last after) (omega (arith, ends, length-set old last after)))
        ∙ take_more_set old last after (omega (arith, ends));
    lines = append-nil (lines_in after) ∙ lines ∙ ap (λ (ls : List L). ls ++ more) (sym (append-nil (lines_in (get_or old last e))));
    unknown = All-cons (λ (c : Chunk L). c.quiet.wake ≡ 0) after [] none (All-nil (λ (c : Chunk L). c.quiet.wake ≡ 0));
  }

  pub behind_ok : {X E : Type 0} (line : L) (r : Result X E) → is_err r ≡ false → behind line r ≡ line ∷ []
  behind_ok line (Ok done) ok = refl
  behind_ok line (Err e) ok = absurd cc

  -- ---- a message more

  pub knows_later : (Stands : L → Type 0) (due : L → List Met → Met → Bool) (made : List Met) (met : Met) (chunks : List (Chunk L))
      → All (Knows Stands due made) chunks → All (Knows Stands due (made ++ met ∷ [])) chunks
  knows_later Stands due made met chunks known k d lt =
      let c = get_or chunks k d in
      record {
        stand = (known k d lt).stand;
        sleeps = λ j e within. sleeps_later c.quiet made (due (get_or (lines_in c) j e)) met ((known k d lt).sleeps j e within);
      }

  -- ---- messages at which none of the lines so far is due

  pub sleeps_more : (due : L → List Met → Met → Bool) (part whole : Quiet) (made : List Met) (lines : List L) (i : ℕ) (line : L)
      → i < length lines → line ≡ get_or lines i line → IsPart part whole
      → All (λ (l : L). Sleeps whole made (due l)) (take i lines) → Sleeps part made (due line)
      → All (λ (l : L). Sleeps part made (due l)) (take (i + 1) lines)
  sleeps_more due part whole made lines i line within is narrow before sleeps =
      All-more (λ (l : L). Sleeps part made (due l)) lines i line within
      (λ k d lt. sleeps_part part whole made (due (get_or (take i lines) k d)) narrow (before k d lt))
      (subst (λ (l : L). Sleeps part made (due l)) is sleeps)

  -- none of the lines is due in front of a message that is quiet
  pub quiet_lines : (due : L → List Met → Met → Bool) (q : Quiet) (made : List Met) (next : Met) (lines : List L)
      → All (λ (l : L). Sleeps q made (due l)) lines → IsQuiet q made next → All (λ (l : L). due l made next ≡ false) lines
  quiet_lines due q made next lines sleep quiet k d lt = sleeps_now q made next (due (get_or lines k d)) (sleep k d lt) quiet

  -- ---- other counters

  pub knows_others : (Stood Stands : L → Type 0) (due : L → List Met → Met → Bool) (made : List Met) (chunks : List (Chunk L))
      → ((line : L) → Stood line → Stands line) → All (Knows Stood due made) chunks → All (Knows Stands due made) chunks
  knows_others Stood Stands due made chunks stand known k d lt = record {
    stand = λ j e within. stand (get_or (lines_in (get_or chunks k d)) j e) ((known k d lt).stand j e within);
    sleeps = (known k d lt).sleeps;
  }

  -- with a line more and its counter, before any message
  pub put_known : (Stands : List Selector → L → Type 0) (due : L → List Met → Met → Bool) (old new : List (Chunk L)) (more : List L)
      (before after : Counted) → before.made ≡ [] → after.made ≡ []
      → ((line : L) → Stands before.selectors line → Stands after.selectors line)
      → Puts old new more → All (Stands after.selectors) more
      → All (Knows (Stands before.selectors) due before.made) old → All (Knows (Stands after.selectors) due after.made) new
  put_known Stands due old new more before after none still others puts stand known =
      let same : before.made ≡ after.made = none ∙ sym still in
      puts_known (Stands after.selectors) due after.made old new more puts
      (knows_others (Stands before.selectors) (Stands after.selectors) due after.made old others
      (subst (λ (ms : List Met). All (Knows (Stands before.selectors) due ms) old) same known))
      stand

  -- of one line fewer the same is known
  pub knows_fewer : (Stands : L → Type 0) (due : L → List Met → Met → Bool) (made : List Met) (old new : Chunk L) (place : ℕ)
      → new.quiet ≡ old.quiet → lines_in new ≡ remove (lines_in old) place → Knows Stands due made old → Knows Stands due made new
  knows_fewer Stands due made old new place quiet lines known = record {
    stand = fewer Stands known.stand;
    sleeps = fewer (λ (l : L). Sleeps new.quiet made (due l))
        (subst (λ (q : Quiet). All (λ (l : L). Sleeps q made (due l)) (lines_in old)) (sym quiet) known.sleeps);
  }
    where
      fewer : (P : L → Type 0) → All P (lines_in old) → All P (lines_in new)
      fewer P all = All-same P (lines_in new) (remove (lines_in old) place) lines
          (All-append P (take place (lines_in old)) (drop (suc place) (lines_in old))
          (All-take P place (lines_in old) all) (All-drop P (suc place) (lines_in old) all))

  -- ---- chunks without lines

  pub first_there : (chunks : List (Chunk L)) (c : Chunk L) → Some c ≡ slice_get chunks 0 → (c.lines.len == 0) ≡ true
      → StartsEmpty chunks
  first_there [] c e none = absurd cc
  first_there (x ∷ xs) c e none =
      let same : c ≡ x = cc in
      let empty : length (lines_in c) ≡ 0 = omega (arith, c.lines.ok.0, eqb-true c.lines.len 0 none) in
      let long : length (lines_in x) ≡ 0 = ap (λ (d : Chunk L). length (lines_in d)) (sym same) ∙ empty in
      record { first = x; rest = xs; is = refl; none = no_line (lines_in x) long }
    where
      no_line : (ls : List L) → length ls ≡ 0 → ls ≡ []
      no_line [] long = refl
      no_line (l ∷ ls) long = absurd (omega (arith, long))

  pub some_there : (chunks : List (Chunk L)) → StartsEmpty chunks → 0 < length chunks
  some_there chunks s = let long = ap length s.is in omega (arith, long)

  pub drops_first : (old new : List (Chunk L)) → StartsEmpty old → new ≡ remove old 0 → Drops old new
  drops_first old new s removed = record {
    front = s.first ∷ [];
    old_is = s.is ∙ ap (λ (cs : List (Chunk L)). s.first ∷ cs) (sym (removed ∙ ap (λ (cs : List (Chunk L)). remove cs 0) s.is));
    none = append-nil (lines_in s.first) ∙ s.none;
  }

  pub drops_lines : (old new : List (Chunk L)) → Drops old new → lines_of new ≡ lines_of old
  drops_lines old new d =
      sym (ap lines_of d.old_is ∙ lines_append d.front new ∙ ap (λ (ls : List L). ls ++ lines_of new) d.none)

  pub drops_all : (P : Chunk L → Type 0) (old new : List (Chunk L)) → Drops old new → All P old → All P new
  drops_all P old new d all = all_rest P d.front new (All-same P (d.front ++ new) old (sym d.old_is) all)
