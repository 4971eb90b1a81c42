-- A merge under way.
use Rattle.std.proofs.Common.{◌≡◌, ℕ, ◌<◌, false, List, [], ◌∷◌, ◌++◌, length, Option, None, Some, Contains, sum_by, IsPermutation, refl, sym, ap, subst, ◌∙◌, append_assoc, append-nil, arith}
use Rattle.std.specs.Ordering.{is_lt}
use Rattle.std.specs.BinaryHeap.{IsHeap, IsUpperBound, KeepsHeap, PopsGreatest}
use Rattle.std.specs.Io.KnownBytes.{Appends}
use Rattle.std.proofs.lemmas.List.Sorted.{Contains-permutation, IsPermutation-sym, sum_by_pushed, sum_by_popped}
use Rattle.bench_complete.specs.declared.placed.Placed.{Placed}
use Rattle.bench_complete.specs.declared.head.Head.{Head}
use Rattle.bench_complete.specs.declared.times.Times.{Times}
use Rattle.bench_complete.specs.Pieces.{Piece, bytes_of}
use Rattle.bench_complete.specs.Merging.{of_channel, IsNotBehind}
use Rattle.bench_complete.specs.Lanes.{Stands, Follows, Pushes, AreHeads, Merges, head_cmp, parts_of, steps}
use Rattle.bench_complete.proofs.Merged.{put, put-same, put-other, IsOn, nothing_done, one_more, all_done, bytes_of-push}
use Rattle.bench_complete.proofs.Heads.{takes, adds, none_left, all_contained, not_behind}

-- writers that got bytes and then more
pub appends_both : (old mid new : Option (List ℕ)) (first second : List ℕ) → Appends old mid first → Appends mid new second → Appends old new (first ++ second)
appends_both None mid new first second a b = tt
appends_both (Some xs) None new first second a b = absurd a
appends_both (Some xs) (Some ys) None first second a b = absurd b
appends_both (Some xs) (Some ys) (Some zs) first second a b = b ∙ ap (λ (l : List ℕ). l ++ second) a ∙ append_assoc xs first second

pub appends_nothing : (old : Option (List ℕ)) → Appends old old []
appends_nothing None = tt
appends_nothing (Some xs) = sym (append-nil xs)

module _ (file : List ℕ) (es : List Placed) (t : Times) (known : Option (List ℕ)) where
  -- packets were merged, and where the file is known written, and the heap has the heads of those that are left
  pub record IsMerging (heads : List Head) (got gets : Option (List ℕ)) : Type 0 where
    pub rest : ℕ → List Piece
    pub done : List Piece
    pub are : AreHeads file es t heads rest
    pub on : IsOn (parts_of file es t) rest done
    pub heap : IsHeap head_cmp heads
    pub taken : known ≡ Some file → Appends got gets (bytes_of done)

  pub begins : (heads : List Head) (got : Option (List ℕ)) → AreHeads file es t heads (λ k. of_channel k (parts_of file es t)) → IsHeap head_cmp heads → IsMerging heads got got
  begins heads got are heap = record { rest = λ k. of_channel k (parts_of file es t); done = []; are = are; on = nothing_done (parts_of file es t); heap = heap; taken = λ is. appends_nothing got }

  in_heap : (heads others : List Head) (x : Head) → IsPermutation heads (x ∷ others) → Contains heads x
  in_heap heads others x perm = Contains-permutation (x ∷ others) heads x (IsPermutation-sym heads (x ∷ others) perm) (0, omega arith, refl)

  pub popped : (heads others : List Head) (x : Head) (got gets : Option (List ℕ)) (m : IsMerging heads got gets) → IsPermutation heads (x ∷ others) → Stands file es t x (m.rest x.channel)
  popped heads others x got gets m perm = m.are.sound x (in_heap heads others x perm)

  stands_first : (heads : List Head) (rest : ℕ → List Piece) (x : Head) (p : Piece) (ps : List Piece) → AreHeads file es t heads rest → (s : Stands file es t x (p ∷ ps)) → IsUpperBound head_cmp x heads
      → (q : Piece) (others : List Piece) → rest q.header.channel ≡ q ∷ others → IsNotBehind p.header q.header
  stands_first heads rest x p ps are s upper q others is =
      let w = are.whole q.header.channel q others is in
      let z = are.sound w.0 w.1 in
      let same : z.first ∷ z.others ≡ q ∷ others = sym z.is ∙ ap rest w.2 ∙ is in
      let one : z.first ≡ q = cc in
      let own : s.first ≡ p = cc in
      let low : is_lt (head_cmp x w.0) ≡ false = all_contained (λ (y : Head). is_lt (head_cmp x y) ≡ false) heads w.1.0 w.0 upper w.1.1 w.1.2 in
      subst (λ (y : Piece). IsNotBehind p.header y.header) one (subst (λ (y : Piece). IsNotBehind y.header z.first.header) own (not_behind x w.0 s.first z.first s.ahead z.ahead low))

  heads_after : (others more : List Head) (x : Head) (rest : ℕ → List Piece) (p : Piece) (ps : List Piece) (r : Option Head) → AreHeads file es t others (put rest x.channel []) → Stands file es t x (p ∷ ps)
      → Follows file es t x r → Pushes r others more → AreHeads file es t more (put rest x.channel ps)
  heads_after others more x rest p ps None are s f push =
      let none : ps ≡ [] = f p ps s in
      subst (λ (l : List Head). AreHeads file es t l (put rest x.channel ps)) (sym push) (subst (λ (l : List Piece). AreHeads file es t others (put rest x.channel l)) (sym none) are)
  heads_after others more x rest p ps (Some n) are s f push =
      adds file es t others more n (put rest x.channel []) (put rest x.channel ps) are (ap (put rest x.channel []) f.0 ∙ put-same rest x.channel [])
      (λ k ne. put-other rest x.channel k [] (λ e. ne (e ∙ sym f.0)) ∙ sym (put-other rest x.channel k ps (λ e. ne (e ∙ sym f.0))))
      (subst (Stands file es t n) (sym (ap (put rest x.channel ps) f.0 ∙ put-same rest x.channel ps)) (f.2 p ps s)) push

  pub merges_on : (heads others more : List Head) (x : Head) (got gets then : Option (List ℕ)) (r : Option Head) → (m : IsMerging heads got gets) → IsPermutation heads (x ∷ others)
      → PopsGreatest head_cmp heads x others → (known ≡ Some file → (p : Piece) (ps : List Piece) → Stands file es t x (p ∷ ps) → Appends gets then p.bytes)
      → Follows file es t x r → Pushes r others more → KeepsHeap head_cmp others more → IsMerging more got then
  merges_on heads others more x got gets then r m perm greatest written f push keeps =
      let z = popped heads others x got gets m perm in
      let s : Stands file es t x (z.first ∷ z.others) = subst (Stands file es t x) z.is z in
      let g = greatest m.heap in
      let own : z.first.header.channel ≡ x.channel = sym z.ahead.channel in
      record {
        rest = put m.rest x.channel z.others;
        done = m.done ++ z.first ∷ [];
        are = heads_after others more x m.rest z.first z.others r (takes file es t heads others x m.rest m.are perm) s f push;
        on = one_more (parts_of file es t) m.rest m.done x.channel z.first z.others z.is own (stands_first heads m.rest x z.first z.others m.are s g.1) m.on;
        heap = keeps g.0;
        taken = λ is. subst (Appends got then) (sym (bytes_of-push m.done z.first)) (appends_both got gets then (bytes_of m.done) z.first.bytes (m.taken is) (written is z.first z.others s));
      }

  pub merged : (heads : List Head) (got gets : Option (List ℕ)) → length heads ≡ 0 → IsMerging heads got gets → known ≡ Some file → Merges (parts_of file es t) got gets
  merged [] got gets none m is = record { merged = m.done; merge = all_done (parts_of file es t) m.rest m.done (none_left file es t m.rest m.are) m.on; taken = m.taken is }
  merged (h ∷ hs) got gets none m is = absurd (omega (arith, none))

  -- each step leaves fewer
  pub fewer : (heads others more : List Head) (x : Head) (r : Option Head) → IsPermutation heads (x ∷ others) → 0 < steps es t x → Follows file es t x r → Pushes r others more
      → sum_by (steps es t) more < sum_by (steps es t) heads
  fewer heads others more x None perm some f push = omega (arith, some, sum_by_popped (steps es t) x heads others perm, ap (sum_by (steps es t)) push)
  fewer heads others more x (Some n) perm some f push = omega (arith, f.1, sum_by_popped (steps es t) x heads others perm, sum_by_pushed (steps es t) n others more push)
