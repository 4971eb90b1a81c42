-- The code of a sound tree keeps the loader's rules.
use Rattle.std.proofs.Common.{Bool, true, false, get_or, ◌≡◌, ℕ, zero, suc, ◌+◌, ◌-◌, ◌<◌, ◌≤◌, List, [], ◌∷◌, ◌++◌, length, Some, refl, sym, ap, ◌∙◌, subst, arith, append_assoc}
use Rattle.std.specs.Prelude.{if◌then◌else◌, ◌||◌, slice_get, Result, Ok, Err, IfOk}
use Rattle.frame_tree.specs.Tree.{Tree, send, retry, gap, repeat, choose, until, timed, nothing, chained, call, define}
use Rattle.frame_tree.specs.Names.{Scope, same_bytes, meant_by, is_known}
use Rattle.frame_tree.specs.Bounds.{depth_in, CallsKnown, IsDefined, IsSound}
use Rattle.frame_code.specs.declared.Op.{Op}
use Rattle.frame_code.specs.declared.Op.TheVariants as op
use Rattle.frame_code.specs.Loadable.{open_at, loops_among, frames_among, HasMessage, IsLoadable}
use Rattle.frame_code.specs.Routines.{owner_at, routines, passed}
use Rattle.frame_code.specs.Ranges.{IsImage}
use Rattle.frame_code.specs.Table.{Code}
use Rattle.frame_asm.specs.declared.error.AsmError.{AsmError}
use Rattle.frame_asm.proofs.Runs.{HasAt, has_front, has_back, has_all}
use Rattle.frame_asm.proofs.Lengths.{length_shape, length_messages_of}
use Rattle.frame_asm.proofs.Levels.{next, level}
use Rattle.frame_asm.proofs.Ranges.{code_is_image, operations_of, messages_in}
use Rattle.frame_asm.proofs.Starts.{inner_shape, starts, starts_of, owned}
use Rattle.frame_asm.proofs.Counts.{brackets_in, loops_in, frames_in, AreFew, few_brackets}
use Rattle.frame_asm.proofs.Opened.{loops_at, frames_at}
use Rattle.frame_asm.proofs.Loads.{IsGood, AreGood, good_at, good_both, AreKept, good_shape}
use Rattle.frame_asm.specs.Shapes.{size, entries, tree_messages, shape, code_of_tree}

-- how many brackets of a kind stand in one another in each routine, and in main
abbrev pub rooms : ℕ → ℕ → Scope ℕ → Tree → List ℕ
rooms l f vs (define n b r) = brackets_in l f vs b ∷ rooms l f ((n, brackets_in l f vs b) ∷ vs) r
rooms l f vs t = brackets_in l f vs t ∷ []

module _ (l f : ℕ) (one : l ≤ 1) (one' : f ≤ 1) where
  one_room : (vs ds : Scope ℕ) (t : Tree) (k : ℕ) → AreFew l vs ds → depth_in ds t ≤ 16 → get_or (brackets_in l f vs t ∷ []) k 0 ≤ 16 + l
  one_room vs ds t zero h d = omega (arith, few_brackets l f one one' vs ds t h, d)
  one_room vs ds t (suc k) h d = omega arith

  few_rooms : (vs ds : Scope ℕ) (t : Tree) (k : ℕ) → AreFew l vs ds → depth_in ds t ≤ 16 → get_or (rooms l f vs t) k 0 ≤ 16 + l
  few_rooms vs ds (send o x) k h d = one_room vs ds (send o x) k h d
  few_rooms vs ds (retry n o x) k h d = one_room vs ds (retry n o x) k h d
  few_rooms vs ds (gap t) k h d = one_room vs ds (gap t) k h d
  few_rooms vs ds (repeat n b) k h d = one_room vs ds (repeat n b) k h d
  few_rooms vs ds (choose v a b) k h d = one_room vs ds (choose v a b) k h d
  few_rooms vs ds (until v n b) k h d = one_room vs ds (until v n b) k h d
  few_rooms vs ds (timed n b) k h d = one_room vs ds (timed n b) k h d
  few_rooms vs ds nothing k h d = one_room vs ds nothing k h d
  few_rooms vs ds (chained a b) k h d = one_room vs ds (chained a b) k h d
  few_rooms vs ds (call n) k h d = one_room vs ds (call n) k h d
  few_rooms vs ds (define n b r) zero h d = omega (arith, few_brackets l f one one' vs ds b h, d)
  few_rooms vs ds (define n b r) (suc k) h d = few_rooms ((n, brackets_in l f vs b) ∷ vs) ((n, depth_in ds b) ∷ ds) r k (refl, few_brackets l f one one' vs ds b h, h) (omega (arith, d))

few_starts : (rs : Scope ℕ) (t : Tree) (p : ℕ) → length rs ≤ 32 → IsDefined rs t → length rs + length (starts p t) ≤ 32
few_starts rs (send l x) p h k = omega (arith, h)
few_starts rs (retry n l x) p h k = omega (arith, h)
few_starts rs (gap t) p h k = omega (arith, h)
few_starts rs (repeat n b) p h k = omega (arith, h)
few_starts rs (choose v a b) p h k = omega (arith, h)
few_starts rs (until v n b) p h k = omega (arith, h)
few_starts rs (timed n b) p h k = omega (arith, h)
few_starts rs nothing p h k = omega (arith, h)
few_starts rs (chained a b) p h k = omega (arith, h)
few_starts rs (call n) p h k = omega (arith, h)
few_starts rs (define n b r) p h k = omega (arith, few_starts ((n, length rs) ∷ rs) r (suc (p + size b)) (omega (arith, k.0)) k.3)

module _ (os : List Op) (room space : ℕ → ℕ) (n : ℕ) where
  -- these have room for the brackets of a kind of a tree, from routine r on
  abbrev HasRooms : ℕ → ℕ → (ℕ → ℕ) → ℕ → Scope ℕ → Tree → Type 0
  HasRooms l f limit r vs t = (k : ℕ) → limit (r + k) ≡ get_or (rooms l f vs t) k 0

  halting : (p : ℕ) → IsGood os room space n p op.Halt
  halting p = record { paired = tt; goes = tt; has = tt; earlier = tt; loops = λ y. absurd y; frames = λ y. absurd y }

  -- all its places are in one routine
  ruled : (rs : Scope ℕ) (t : Tree) (p m r x : ℕ) → CallsKnown rs t → HasAt os p (shape rs p m t) → p ≤ x → x ≤ p + size t → owner_at os p ≡ r → owner_at os x ≡ r
  ruled rs t p m r x c h l u own =
      let here : x ≡ p + (x - p) = omega (arith, l) in
      ap (owner_at os) here ∙ owned os p (x - p) (shape rs p m t) h (inner_shape rs t p m c) (omega (arith, l, u, length_shape t rs p m)) ∙ own

  -- where a routine or main begins, that has these loops and frames, and calls what has those
  record Begins (rs vs us : Scope ℕ) (t : Tree) (p m : ℕ) : Type 0 where
    inside : p + size t < length os
    table : m + entries t ≤ n
    outside : open_at os p ≡ []
    own : owner_at os p ≡ length rs
    loops : HasRooms 1 0 room (length rs) vs t
    frames : HasRooms 0 1 space (length rs) us t
    kept : AreKept room (length rs) rs vs
    kept' : AreKept space (length rs) rs us

  -- the operations of a frame that begins a routine
  routine_good : (rs vs us : Scope ℕ) (t : Tree) (p m : ℕ) → CallsKnown rs t → HasAt os p (shape rs p m t) → p + size t < length os → m + entries t ≤ n → open_at os p ≡ [] → owner_at os p ≡ length rs
      → loops_in vs t ≤ room (length rs) → frames_in us t ≤ space (length rs) → AreKept room (length rs) rs vs → AreKept space (length rs) rs us → AreGood os room space n p (shape rs p m t)
  routine_good rs vs us t p m c h inside table outside own loops frames kept kept' =
      let hi = p + size t in
      let none : loops_at os p ≡ 0 = ap (λ st. length (loops_among os st)) outside in
      let none' : frames_at os p ≡ 0 = ap (λ st. length (frames_among os st)) outside in
      good_shape os room space n (length rs) p hi (λ x l u. ruled rs t p m (length rs) x c h l u own) inside rs vs us kept kept' t p m c (omega arith) h
      (record { loops = omega (arith, none, loops); frames = omega (arith, none', frames) }) (omega arith) table

  first_room : (l f : ℕ) (limit : ℕ → ℕ) (r : ℕ) (vs : Scope ℕ) (t : Tree) (x : ℕ) → get_or (rooms l f vs t) 0 0 ≡ x → HasRooms l f limit r vs t → limit r ≡ x
  first_room l f limit r vs t x e h = let z : r ≡ r + 0 = omega arith in ap limit z ∙ h 0 ∙ e

  main_good : (rs vs us : Scope ℕ) (t : Tree) (p m : ℕ) → get_or (rooms 1 0 vs t) 0 0 ≡ loops_in vs t → get_or (rooms 0 1 us t) 0 0 ≡ frames_in us t → CallsKnown rs t → HasAt os p (shape rs p m t ++ op.Halt ∷ []) → Begins rs vs us t p m
      → AreGood os room space n p (shape rs p m t ++ op.Halt ∷ [])
  main_good rs vs us t p m e e' c h b =
      let loops = first_room 1 0 room (length rs) vs t (loops_in vs t) e b.loops in
      let frames = first_room 0 1 space (length rs) us t (frames_in us t) e' b.frames in
      good_both os room space n p (p + size t) (shape rs p m t) (op.Halt ∷ []) (ap (λ z. p + z) (length_shape t rs p m))
      (routine_good rs vs us t p m c (has_front os p (shape rs p m t) (op.Halt ∷ []) h) b.inside b.table b.outside b.own (omega (arith, loops)) (omega (arith, frames)) b.kept b.kept')
      (halting (p + size t), tt)

  kept_next : (limit : ℕ → ℕ) (b known : Bool) (k o v i : ℕ) → limit k ≡ v → (b || known) ≡ true → (known ≡ true → (o < k) × (limit o ≡ i)) → ((if b then k else o) < suc k) × (limit (if b then k else o) ≡ (if b then v else i))
  kept_next limit true known k o v i e h old = (omega arith, e)
  kept_next limit false known k o v i e h old = let p = old h in (omega (arith, p.0), p.1)

  all_good : (rs vs us : Scope ℕ) (t : Tree) (p m : ℕ) → IsDefined rs t → HasAt os p (shape rs p m t ++ op.Halt ∷ []) → Begins rs vs us t p m → AreGood os room space n p (shape rs p m t ++ op.Halt ∷ [])
  all_good rs vs us (send o x) p m k h b = main_good rs vs us (send o x) p m refl refl k h b
  all_good rs vs us (retry n o x) p m k h b = main_good rs vs us (retry n o x) p m refl refl k h b
  all_good rs vs us (gap t) p m k h b = main_good rs vs us (gap t) p m refl refl k h b
  all_good rs vs us (repeat n y) p m k h b = main_good rs vs us (repeat n y) p m refl refl k h b
  all_good rs vs us (choose v a y) p m k h b = main_good rs vs us (choose v a y) p m refl refl k h b
  all_good rs vs us (until v n y) p m k h b = main_good rs vs us (until v n y) p m refl refl k h b
  all_good rs vs us (timed n y) p m k h b = main_good rs vs us (timed n y) p m refl refl k h b
  all_good rs vs us nothing p m k h b = main_good rs vs us nothing p m refl refl k h b
  all_good rs vs us (chained a y) p m k h b = main_good rs vs us (chained a y) p m refl refl k h b
  all_good rs vs us (call n) p m k h b = main_good rs vs us (call n) p m refl refl k h b
  all_good rs vs us (define s b t) p m k h begin =
      let inner = (s, length rs) ∷ rs in
      let q = p + size b in
      let rest = shape inner (q + 1) (m + entries b) t in
      let behind = rest ++ op.Halt ∷ [] in
      let body = shape rs p m b in
      let flat : (body ++ op.Return ∷ rest) ++ op.Halt ∷ [] ≡ body ++ (op.Return ∷ behind) = append_assoc body (op.Return ∷ rest) (op.Halt ∷ []) in
      let h' = subst (HasAt os p) flat h in
      let hb = has_front os p body (op.Return ∷ behind) h' in
      let long : p + length body ≡ q = ap (λ z. p + z) (length_shape b rs p m) in
      let hr = has_back os p q body (op.Return ∷ behind) long h' in
      let closed : open_at os q ≡ [] = level os rs p m b hb ∙ begin.outside in
      let mine : owner_at os q ≡ length rs = owned os p (size b) body hb (inner_shape rs b p m k.2) (omega (arith, length_shape b rs p m)) ∙ begin.own in
      let one : q + 1 ≡ suc q = omega arith in
      let loops = first_room 1 0 room (length rs) vs (define s b t) (loops_in vs b) refl begin.loops in
      let frames = first_room 0 1 space (length rs) us (define s b t) (frames_in us b) refl begin.frames in
      let body_good = routine_good rs vs us b p m k.2 hb (omega (arith, begin.inside)) (omega (arith, begin.table)) begin.outside begin.own (omega (arith, loops)) (omega (arith, frames)) begin.kept begin.kept' in
      let returns : IsGood os room space n q op.Return = record { paired = closed; goes = tt; has = tt; earlier = tt; loops = λ y. absurd y; frames = λ y. absurd y } in
      let rest_begins : Begins inner ((s, loops_in vs b) ∷ vs) ((s, frames_in us b) ∷ us) t (q + 1) (m + entries b) = record {
        inside = omega (arith, begin.inside);
        table = omega (arith, begin.table);
        outside = next os q op.Return hr.0 ∙ closed;
        own = ap (owner_at os) one ∙ ap (λ v. passed v (owner_at os q)) hr.0 ∙ ap suc mine;
        loops = λ j. let y : suc (length rs) + j ≡ length rs + suc j = omega arith in ap room y ∙ begin.loops (suc j);
        frames = λ j. let y : suc (length rs) + j ≡ length rs + suc j = omega arith in ap space y ∙ begin.frames (suc j);
        kept = λ x e. kept_next room (same_bytes s x) (is_known rs x) (length rs) (meant_by 0 rs x) (loops_in vs b) (meant_by 0 vs x) loops e (begin.kept x);
        kept' = λ x e. kept_next space (same_bytes s x) (is_known rs x) (length rs) (meant_by 0 rs x) (frames_in us b) (meant_by 0 us x) frames e (begin.kept' x);
      } in
      let rest_good = all_good inner ((s, loops_in vs b) ∷ vs) ((s, frames_in us b) ∷ us) t (q + 1) (m + entries b) k.3 hr.1 rest_begins in
      subst (AreGood os room space n p) (sym flat) (good_both os room space n p q body (op.Return ∷ behind) long body_good (returns, rest_good))

pub code_is_loadable : (t : Tree) → IsSound t → size t ≤ 4095 → entries t ≤ 1024 → IsLoadable (code_of_tree t)
code_is_loadable t s h k =
    let os = (code_of_tree t).operations in
    let room : ℕ → ℕ = λ r. get_or (rooms 1 0 [] t) r 0 in
    let space : ℕ → ℕ = λ r. get_or (rooms 0 1 [] t) r 0 in
    let body = shape [] 0 0 t in
    let all = has_all os [] in
    let has = has_front os 0 body (op.Halt ∷ []) all in
    let long : length os ≡ size t + 1 = operations_of t in
    let end = has_back os 0 (size t) body (op.Halt ∷ []) (omega (arith, length_shape t [] 0 0)) all in
    let begin : Begins os room space (entries t) [] [] [] t 0 0 = record {
      inside = omega (arith, long);
      table = omega arith;
      outside = refl;
      own = refl;
      loops = λ j. let z : 0 + j ≡ j = omega arith in ap room z;
      frames = λ j. let z : 0 + j ≡ j = omega arith in ap space z;
      kept = λ x e. absurd (cc);
      kept' = λ x e. absurd (cc);
    } in
    let good = all_good os room space (entries t) [] [] [] t 0 0 s.defined all begin in
    let table : entries t ≡ length (tree_messages t) = sym (length_messages_of t) in
    let each : (p : ℕ) (o : Op) → slice_get os p ≡ Some o → IsGood os room space (entries t) p o = λ p o e. let here : 0 + p ≡ p = omega arith in subst (λ q. IsGood os room space (entries t) q o) here (good_at os room space (entries t) 0 p os o good e) in
    let level_end : open_at os (size t) ≡ [] = (let z : 0 + size t ≡ size t = omega arith in sym (ap (open_at os) z)) ∙ level os [] 0 0 t has in
    let count : routines os ≡ length (starts 0 t) = ap length (starts_of [] t 0 0 s.defined) in
    record {
      image = code_is_image t s.defined s.in_range h k;
      ends = (body, refl);
      routines_ok = record { few = omega (arith, count, few_starts [] t 0 (omega arith) s.defined); earlier = λ p o e. (each p o e).earlier };
      nested = record {
        paired = λ p o e. (each p o e).paired;
        closed = ap (open_at os) long ∙ next os (size t) op.Halt end.0 ∙ level_end;
        shallow = record { room = room; enough = λ p o e. (each p o e).loops; at_most_17 = λ r. few_rooms 1 0 (omega arith) (omega arith) [] [] t r tt s.shallow };
        few_frames = record { room = space; enough = λ p o e. (each p o e).frames; at_most_16 = λ r. few_rooms 0 1 (omega arith) (omega arith) [] [] t r tt s.shallow };
      };
      jumps = λ p o e. (each p o e).goes;
      messages = λ p o e. subst (λ v. HasMessage v o) table (each p o e).has;
    }

-- an image of it keeps the counts, and so the rules
pub loadable_if : (t : Tree) → IsSound t → (r : Result Code AsmError) → IfOk r (λ image. image ≡ code_of_tree t) → IfOk r (λ image. IsImage image) → IfOk r (λ image. IsLoadable image)
loadable_if t s (Ok image) e i =
    let i' : IsImage (code_of_tree t) = subst IsImage e i in
    subst IsLoadable (sym e) (code_is_loadable t s (omega (arith, operations_of t, i'.operations)) (omega (arith, messages_in t, i'.messages)))
loadable_if t s (Err x) e i = tt
