-- Groups of chunks whose lines are the same, have a line more, or are as they must be.
use Rattle.std.proofs.Common.{◌≡◌, ◌≢◌, ⊎_elim, false, ℕ, ◌+◌, ◌<◌, List, [], ◌∷◌, ◌++◌, length, get_or, set, take, All, Bool, refl, sym, ap, subst, ◌∙◌, arith, append_assoc}
use Rattle.std.proofs.lemmas.List.{append-nil, take_more, take_all, take_more_set, length-set, get_or-set_other, get_or_default}
use Rattle.std.proofs.lemmas.List.Concat.{flat_map-append}
use Rattle.std.proofs.lemmas.List.Elements.{All-append, All-same, All-cons, All-nil, All-more}
use Rattle.judge_rules.specs.declared.rules.Selector.{Selector}
use Rattle.job_moments.specs.declared.chunks.Chunk.{Chunk}
use Rattle.job_moments.specs.declared.groups.Group.{Group}
use Rattle.job_moments.specs.declared.met.Met.{Met}
use Rattle.job_moments.specs.declared.quiet.Quiet.{Quiet}
use Rattle.job_moments.specs.Chunks.{lines_in, lines_of, Puts, Knows}
use Rattle.job_moments.specs.Counting.{Counted}
use Rattle.job_moments.specs.Groups.{chunks_in, chunks_of, lines_inside, lines_of_groups, AllBeside, IsPartBeside, PutsGroup, KnowsInside}
use Rattle.job_moments.specs.Quiet.{IsPart, IsQuiet, Sleeps}
use Rattle.job_moments.proofs.Chunking.{knows_later, knows_others, puts_known, puts_lines, puts_none}
use Rattle.job_moments.proofs.Joined.{all_front, all_rest, all_joined, all_pieces}
use Rattle.job_moments.proofs.Sleeping.{sleeps_later, sleeps_now, sleeps_part, sleeps_unknown}
use Rattle.job_moments.proofs.Lists.{by_place}
use Rattle.std.proofs.lemmas.Bool.{cases_lt, ne_eqb}
use Rattle.std.specs.Prelude.{◌==◌}

-- ---- messages that are quiet for each of some chunks

pub part_of_part : (part middle whole : Quiet) → IsPart part middle → IsPart middle whole → IsPart part whole
part_of_part part middle whole one other = record {
  from = omega (arith, one.from, other.from);
  until = omega (arith, one.until, other.until);
  wake = omega (arith, one.wake, other.wake);
}

before_last : (i k : ℕ) → k < i + 1 → k ≢ i → k < i
before_last i k lt other = ⊎_elim (λ below. below) (λ above. absurd (other (omega (arith, lt, above)))) (cases_lt k i)

module _ {L : Type 0} where
  -- with one chunk more
  pub parts_more : (part before : Quiet) (chunks : List (Chunk L)) (i : ℕ) (chunk : Chunk L) → i < length chunks
      → chunk ≡ get_or chunks i chunk → IsPart part before → IsPart part chunk.quiet
      → All (λ (c : Chunk L). IsPart before c.quiet) (take i chunks)
      → All (λ (c : Chunk L). IsPart part c.quiet) (take (i + 1) chunks)
  parts_more part before chunks i chunk within is narrow one so_far =
      All-more (λ (c : Chunk L). IsPart part c.quiet) chunks i chunk within
      (λ k d lt. part_of_part part before (get_or (take i chunks) k d).quiet narrow (so_far k d lt))
      (subst (λ (c : Chunk L). IsPart part c.quiet) is one)

  -- no line of chunks is due at messages that are quiet for each of them
  pub quiet_inside : (Stands : L → Type 0) (due : L → List Met → Met → Bool) (made : List Met) (quiet : Quiet) (chunks : List (Chunk L))
      → All (λ (c : Chunk L). IsPart quiet c.quiet) chunks → All (Knows Stands due made) chunks
      → All (λ (l : L). Sleeps quiet made (due l)) (lines_of chunks)
  quiet_inside Stands due made quiet chunks parts known =
      all_joined lines_in (λ (l : L). Sleeps quiet made (due l)) chunks
      (λ k d lt. λ j e within. sleeps_part quiet (get_or chunks k d).quiet made (due (get_or (lines_in (get_or chunks k d)) j e))
      (parts k d lt) ((known k d lt).sleeps j e within))

  -- ---- the lines of groups

  pub lines_by_chunks : (groups : List (Group L)) → lines_of_groups groups ≡ lines_of (chunks_of groups)
  lines_by_chunks [] = refl
  lines_by_chunks (g ∷ gs) =
      ap (λ (ls : List L). lines_inside g ++ ls) (lines_by_chunks gs)
      ∙ sym (flat_map-append lines_in (chunks_in g) (chunks_of gs))

  groups_append : (xs ys : List (Group L)) → lines_of_groups (xs ++ ys) ≡ lines_of_groups xs ++ lines_of_groups ys
  groups_append xs ys = flat_map-append lines_inside xs ys

  -- ---- a line more

  pub group_lines : (old new : List (Group L)) (more : List L) → PutsGroup old new more
      → lines_of_groups new ≡ lines_of_groups old ++ more
  group_lines old new more p =
      let changed : lines_of_groups p.changed ≡ lines_of_groups p.rest ++ more =
      lines_by_chunks p.changed ∙ puts_lines (chunks_of p.rest) (chunks_of p.changed) more p.lines
      ∙ ap (λ (ls : List L). ls ++ more) (sym (lines_by_chunks p.rest)) in
      ap lines_of_groups p.new_is ∙ groups_append p.front p.changed
      ∙ ap (λ (ls : List L). lines_of_groups p.front ++ ls) changed
      ∙ sym (append_assoc (lines_of_groups p.front) (lines_of_groups p.rest) more)
      ∙ ap (λ (ls : List L). ls ++ more) (sym (ap lines_of_groups p.old_is ∙ groups_append p.front p.rest))

  group_known : (Stands : L → Type 0) (due : L → List Met → Met → Bool) (made : List Met) (old new : List (Group L)) (more : List L)
      → PutsGroup old new more → All (KnowsInside Stands due made) old → All Stands more → All (KnowsInside Stands due made) new
  group_known Stands due made old new more p known stand =
      let Kept = KnowsInside Stands due made in
      let Each = Knows Stands due made in
      let parts : All Kept (p.front ++ p.rest) = All-same Kept (p.front ++ p.rest) old (sym p.old_is) known in
      let front : All Kept p.front = all_front Kept p.front p.rest parts in
      let rest : All Kept p.rest = all_rest Kept p.front p.rest parts in
      let before : All Each (chunks_of p.rest) = all_joined chunks_in Each p.rest (λ k d lt. (rest k d lt).chunks) in
      let after : All Each (chunks_of p.changed) =
      puts_known Stands due made (chunks_of p.rest) (chunks_of p.changed) more p.lines before stand in
      let changed : All Kept p.changed = λ k d lt. record {
        chunks = all_pieces chunks_in Each p.changed after k d lt;
        sleeps = λ j e within.
            sleeps_unknown (get_or p.changed k d).quiet made (due (get_or (lines_inside (get_or p.changed k d)) j e)) (p.unknown k d lt);
      } in
      All-same Kept new (p.front ++ p.changed) p.new_is (All-append Kept p.front p.changed front changed)

  -- nothing was put, or a new group, or a line into the last one
  pub group_none : (old new : List (Group L)) → new ≡ old → PutsGroup old new []
  group_none old new same = record {
    front = old;
    rest = [];
    changed = [];
    old_is = sym (append-nil old);
    new_is = same ∙ sym (append-nil old);
    lines = puts_none [] [] refl;
    unknown = All-nil (λ (g : Group L). g.quiet.wake ≡ 0);
  }

  pub group_new : (old new : List (Group L)) (group : Group L) (more : List L) → new ≡ old ++ group ∷ []
      → Puts [] (chunks_in group) more → group.quiet.wake ≡ 0 → PutsGroup old new more
  group_new old new group more is puts none = record {
    front = old;
    rest = [];
    changed = group ∷ [];
    old_is = sym (append-nil old);
    new_is = is;
    lines = subst (λ (cs : List (Chunk L)). Puts [] cs more) (sym (append-nil (chunks_in group))) puts;
    unknown = All-cons (λ (g : Group L). g.quiet.wake ≡ 0) group [] none (All-nil (λ (g : Group L). g.quiet.wake ≡ 0));
  }

  pub group_last : (old new : List (Group L)) (last : ℕ) (e after : Group L) (more : List L) → last + 1 ≡ length old
      → new ≡ set old last after → Puts (chunks_in (get_or old last e)) (chunks_in after) more → after.quiet.wake ≡ 0
      → PutsGroup old new more
  group_last old new last e after more ends is puts none = record {
    front = take last old;
    rest = get_or old last e ∷ [];
    changed = after ∷ [];
    old_is = sym (take_all (last + 1) old (omega (arith, ends))) ∙ take_more old last e (omega (arith, ends));
    new_is = is ∙ sym (take_all (last + 1) (set old last after) (omega (arith, ends, length-set old last after)))
        ∙ take_more_set old last after (omega (arith, ends));
    lines = subst (λ (cs : List (Chunk L)). Puts cs (chunks_in after ++ []) more) (sym (append-nil (chunks_in (get_or old last e))))
        (subst (λ (cs : List (Chunk L)). Puts (chunks_in (get_or old last e)) cs more) (sym (append-nil (chunks_in after))) puts);
    unknown = All-cons (λ (g : Group L). g.quiet.wake ≡ 0) after [] none (All-nil (λ (g : Group L). g.quiet.wake ≡ 0));
  }

  -- ---- a message more

  pub groups_later : (Stands : L → Type 0) (due : L → List Met → Met → Bool) (made : List Met) (met : Met) (groups : List (Group L))
      → All (KnowsInside Stands due made) groups → All (KnowsInside Stands due (made ++ met ∷ [])) groups
  groups_later Stands due made met groups known k d lt =
      let g = get_or groups k d in
      record {
        chunks = knows_later Stands due made met (chunks_in g) (known k d lt).chunks;
        sleeps = λ j e within. sleeps_later g.quiet made (due (get_or (lines_inside g) j e)) met ((known k d lt).sleeps j e within);
      }

  -- ---- the groups but one

  pub beside_sleeps : (Stands : L → Type 0) (due : L → List Met → Met → Bool) (made : List Met) (quiet : Quiet) (place : ℕ) (groups : List (Group L))
      → IsPartBeside quiet place groups → All (KnowsInside Stands due made) groups
      → AllBeside (λ (l : L). Sleeps quiet made (due l)) place groups
  beside_sleeps Stands due made quiet place groups parts known k d lt other = λ j e within.
      sleeps_part quiet (get_or groups k d).quiet made (due (get_or (lines_inside (get_or groups k d)) j e)) (parts k d lt other)
      ((known k d lt).sleeps j e within)

  pub beside_unknown : (due : L → List Met → Met → Bool) (made : List Met) (quiet : Quiet) (place : ℕ) (groups : List (Group L))
      → quiet.wake ≡ 0 → AllBeside (λ (l : L). Sleeps quiet made (due l)) place groups
  beside_unknown due made quiet place groups none k d lt other = λ j e within.
      sleeps_unknown quiet made (due (get_or (lines_inside (get_or groups k d)) j e)) none

  pub beside_later : (due : L → List Met → Met → Bool) (made : List Met) (met : Met) (quiet : Quiet) (place : ℕ) (groups : List (Group L))
      → AllBeside (λ (l : L). Sleeps quiet made (due l)) place groups
      → AllBeside (λ (l : L). Sleeps quiet (made ++ met ∷ []) (due l)) place groups
  beside_later due made met quiet place groups sleep k d lt other = λ j e within.
      sleeps_later quiet made (due (get_or (lines_inside (get_or groups k d)) j e)) met (sleep k d lt other j e within)

  pub beside_still : (due : L → List Met → Met → Bool) (made : List Met) (next : Met) (quiet : Quiet) (place : ℕ) (groups : List (Group L))
      → AllBeside (λ (l : L). Sleeps quiet made (due l)) place groups → IsQuiet quiet made next
      → AllBeside (λ (l : L). due l made next ≡ false) place groups
  beside_still due made next quiet place groups sleep now k d lt other = λ j e within.
      sleeps_now quiet made next (due (get_or (lines_inside (get_or groups k d)) j e)) (sleep k d lt other j e within) now

  pub beside_set : (P : L → Type 0) (place : ℕ) (groups : List (Group L)) (group : Group L)
      → AllBeside P place groups → AllBeside P place (set groups place group)
  beside_set P place groups group all k d lt other =
      subst (λ (g : Group L). All P (lines_inside g)) (sym (get_or-set_other groups place k group d other))
      (all k d (omega (arith, lt, length-set groups place group)) other)

  -- they are quiet for one group more
  pub beside_more : (part before : Quiet) (place i : ℕ) (groups : List (Group L)) (group : Group L) → i < length groups
      → group ≡ get_or groups i group → IsPart part before → ((i == place) ≡ false → IsPart part group.quiet)
      → ((k : ℕ) (d : Group L) → k < i → k ≢ place → IsPart before (get_or groups k d).quiet)
      → (k : ℕ) (d : Group L) → k < i + 1 → k ≢ place → IsPart part (get_or groups k d).quiet
  beside_more part before place i groups group within is narrow one so_far k d lt other =
      by_place i k
      (λ at. subst (λ j. IsPart part (get_or groups j d).quiet) (sym at)
      (subst (λ (g : Group L). IsPart part g.quiet) (is ∙ get_or_default groups i group d within) (one (ne_eqb i place (λ here. other (at ∙ here))))))
      (λ beside. part_of_part part before (get_or groups k d).quiet narrow (so_far k d (before_last i k lt beside) other))

  -- ---- other counters

  groups_others : (Stood Stands : L → Type 0) (due : L → List Met → Met → Bool) (made : List Met) (groups : List (Group L))
      → ((line : L) → Stood line → Stands line) → All (KnowsInside Stood due made) groups → All (KnowsInside Stands due made) groups
  groups_others Stood Stands due made groups stand known k d lt = record {
    chunks = knows_others Stood Stands due made (chunks_in (get_or groups k d)) stand (known k d lt).chunks;
    sleeps = (known k d lt).sleeps;
  }

  -- with a line more and its counter, before any message
  pub group_put_known : (Stands : List Selector → L → Type 0) (due : L → List Met → Met → Bool) (old new : List (Group L)) (more : List L)
      (before after : Counted) → before.made ≡ [] → after.made ≡ []
      → ((line : L) → Stands before.selectors line → Stands after.selectors line)
      → PutsGroup old new more → All (Stands after.selectors) more
      → All (KnowsInside (Stands before.selectors) due before.made) old
      → All (KnowsInside (Stands after.selectors) due after.made) new
  group_put_known Stands due old new more before after none still others puts stand known =
      let same : before.made ≡ after.made = none ∙ sym still in
      group_known (Stands after.selectors) due after.made old new more puts
      (groups_others (Stands before.selectors) (Stands after.selectors) due after.made old others
      (subst (λ (ms : List Met). All (KnowsInside (Stands before.selectors) due ms) old) same known))
      stand
