-- The operations of a frame without definitions keep the loader's rules for one operation, within a routine.
use Rattle.std.proofs.Common.{true, false, ◌≡◌, ℕ, zero, suc, ◌+◌, ◌<◌, ◌≤◌, List, [], ◌∷◌, ◌++◌, length, Some, refl, sym, ap, ◌∙◌, subst, arith}
use Rattle.std.specs.Prelude.{slice_get}
use Rattle.mil_message.specs.declared.outcome_test.OutcomeTest.{OutcomeTest}
use Rattle.mil_message.specs.declared.outcome_test.OutcomeTest.TheVariants.{Failed}
use Rattle.frame_tree.specs.Tree.{Condition, asked, negated, both, either, Tree, send, retry, gap, repeat, choose, until, timed, nothing, chained, call, define}
use Rattle.frame_tree.specs.Names.{Scope, meant_by, is_known}
use Rattle.frame_tree.specs.Bounds.{CallsKnown}
use Rattle.frame_code.specs.declared.Op.{Op}
use Rattle.frame_code.specs.declared.Op.TheVariants as op
use Rattle.frame_code.specs.Loadable.{open_at, loops_among, frames_among, IsPaired, GoesWell, HasMessage, CallsEarlier, OpensLoop, OpensFrame, HasRoom}
use Rattle.frame_code.specs.Routines.{owner_at}
use Rattle.frame_asm.proofs.Runs.{HasAt, has_front, has_back}
use Rattle.frame_asm.proofs.Lengths.{length_branch, length_shape}
use Rattle.frame_asm.proofs.Levels.{next, branch_level, level}
use Rattle.frame_asm.proofs.Counts.{loops_in, frames_in}
use Rattle.frame_asm.proofs.Opened.{loops_at, frames_at, IsIn, in_repeat, in_timed, loops_more, frames_more, loop_there, frame_there}
use Rattle.frame_asm.specs.Shapes.{branch_size, probe, branch, size, entries, retry_shape, shape}

-- the rules for one operation
pub record IsGood (os : List Op) (room space : ℕ → ℕ) (n p : ℕ) (o : Op) : Type 0 where
  pub paired : IsPaired os (open_at os p) o
  pub goes : GoesWell os p o
  pub has : HasMessage n o
  pub earlier : CallsEarlier (owner_at os p) o
  pub loops : HasRoom OpensLoop room (owner_at os p) (loops_at os p) o
  pub frames : HasRoom OpensFrame space (owner_at os p) (frames_at os p) o

abbrev pub AreGood : List Op → (ℕ → ℕ) → (ℕ → ℕ) → ℕ → ℕ → List Op → Type 0
AreGood os room space n p [] = Unit {0}
AreGood os room space n p (y ∷ ys) = IsGood os room space n p y × AreGood os room space n (p + 1) ys

pub good_at : (os : List Op) (room space : ℕ → ℕ) (n p i : ℕ) (ys : List Op) (o : Op) → AreGood os room space n p ys → slice_get ys i ≡ Some o → IsGood os room space n (p + i) o
good_at os room space n p i [] o g e = absurd (cc)
good_at os room space n p zero (y ∷ ys) o g e =
    let same : y ≡ o = cc in
    let here : p ≡ p + 0 = omega arith in
    subst (λ q. IsGood os room space n q o) here (subst (λ v. IsGood os room space n p v) same g.0)
good_at os room space n p (suc i) (y ∷ ys) o g e =
    let here : p + 1 + i ≡ p + suc i = omega arith in
    subst (λ q. IsGood os room space n q o) here (good_at os room space n (p + 1) i ys o g.1 e)

pub good_both : (os : List Op) (room space : ℕ → ℕ) (n p q : ℕ) (a b : List Op) → p + length a ≡ q → AreGood os room space n p a → AreGood os room space n q b → AreGood os room space n p (a ++ b)
good_both os room space n p q [] b e g h = let same : q ≡ p = omega arith in subst (λ v. AreGood os room space n v b) same h
good_both os room space n p q (y ∷ a) b e g h = (g.0, good_both os room space n (p + 1) q a b (omega arith) g.1 h)

-- each name in scope is that of a routine before r, which has room for its brackets of a kind
abbrev pub AreKept : (ℕ → ℕ) → ℕ → Scope ℕ → Scope ℕ → Type 0
AreKept room r rs vs = (s : List ℕ) → is_known rs s ≡ true → (meant_by 0 rs s < r) × (room (meant_by 0 rs s) ≡ meant_by 0 vs s)

-- the places from lo to hi, all in routine r
module _ (os : List Op) (room space : ℕ → ℕ) (n r lo hi : ℕ) (own : (x : ℕ) → lo ≤ x → x ≤ hi → owner_at os x ≡ r) (last : hi < length os) where
  joined : (p q : ℕ) (a b : List Op) → p + length a ≡ q → AreGood os room space n p a → AreGood os room space n q b → AreGood os room space n p (a ++ b)
  joined = good_both os room space n

  -- to a later operation in the same brackets
  jump : (p i : ℕ) → lo ≤ p → p < i → i ≤ hi → open_at os i ≡ open_at os p → IsGood os room space n p (op.Jump i)
  jump p i l h k e = record { paired = tt; goes = (h, omega (arith, k, last), e, own i (omega (arith, l, h)) k ∙ sym (own p l (omega (arith, h, k)))); has = tt; earlier = tt; loops = λ y. absurd y; frames = λ y. absurd y }

  jump_false : (p i : ℕ) → lo ≤ p → p < i → i ≤ hi → open_at os i ≡ open_at os p → IsGood os room space n p (op.JumpFalse i)
  jump_false p i l h k e = record { paired = tt; goes = (h, omega (arith, k, last), e, own i (omega (arith, l, h)) k ∙ sym (own p l (omega (arith, h, k)))); has = tt; earlier = tt; loops = λ y. absurd y; frames = λ y. absurd y }

  test : (p : ℕ) (k : OutcomeTest) → IsGood os room space n p (op.Test k)
  test p k = record { paired = tt; goes = tt; has = tt; earlier = tt; loops = λ y. absurd y; frames = λ y. absurd y }

  sending : (p m : ℕ) → m < n → IsGood os room space n p (op.Send m)
  sending p m h = record { paired = tt; goes = tt; has = h; earlier = tt; loops = λ y. absurd y; frames = λ y. absurd y }

  resending : (p m : ℕ) → m < n → IsGood os room space n p (op.Alt m)
  resending p m h = record { paired = tt; goes = tt; has = h; earlier = tt; loops = λ y. absurd y; frames = λ y. absurd y }

  spacing : (p t : ℕ) → IsGood os room space n p (op.SetGap t)
  spacing p t = record { paired = tt; goes = tt; has = tt; earlier = tt; loops = λ y. absurd y; frames = λ y. absurd y }

  -- a place with room for so many loops more, and so many frames
  pub record Fits (p a b : ℕ) : Type 0 where
    pub loops : loops_at os p + a ≤ room r
    pub frames : frames_at os p + b ≤ space r

  fits_same : (p q a b a' b' : ℕ) → open_at os q ≡ open_at os p → Fits p a b → a' ≤ a → b' ≤ b → Fits q a' b'
  fits_same p q a b a' b' e f h k =
      record { loops = omega (arith, ap (λ st. length (loops_among os st)) e, f.loops, h); frames = omega (arith, ap (λ st. length (frames_among os st)) e, f.frames, k) }

  fits_in_loop : (p q a b a' b' : ℕ) → IsIn os true p q → Fits p a b → a' < a → b' ≤ b → Fits q a' b'
  fits_in_loop p q a b a' b' i f h k = record { loops = omega (arith, loops_more os true p q i, f.loops, h); frames = omega (arith, frames_more os true p q i, f.frames, k) }

  fits_in_frame : (p q a b a' b' : ℕ) → IsIn os false p q → Fits p a b → a' ≤ a → b' < b → Fits q a' b'
  fits_in_frame p q a b a' b' i f h k = record { loops = omega (arith, loops_more os false p q i, f.loops, h); frames = omega (arith, frames_more os false p q i, f.frames, k) }

  opening : (p k a b : ℕ) → lo ≤ p → p ≤ hi → Fits p a b → 0 < a → IsGood os room space n p (op.Loop k)
  opening p k a b l h f some =
      let e : loops_at os p < room r = omega (arith, f.loops, some) in
      record { paired = tt; goes = tt; has = tt; earlier = tt; loops = λ y. subst (λ v. loops_at os p < room v) (sym (own p l h)) e; frames = λ y. absurd y }

  beginning : (p a b : ℕ) → lo ≤ p → p ≤ hi → Fits p a b → 0 < b → IsGood os room space n p op.Begin
  beginning p a b l h f some =
      let e : frames_at os p < space r = omega (arith, f.frames, some) in
      record { paired = tt; goes = tt; has = tt; earlier = tt; loops = λ y. absurd y; frames = λ y. subst (λ v. frames_at os p < space v) (sym (own p l h)) e }

  -- back to behind the operation that opens the innermost bracket, a loop
  turning : (p q : ℕ) → IsIn os true p q → IsGood os room space n q (op.Again (p + 1))
  turning p q i = record { paired = loop_there os p q i; goes = (p, open_at os p, i.top, omega arith); has = tt; earlier = tt; loops = λ y. absurd y; frames = λ y. absurd y }

  pacing : (p q t : ℕ) → IsIn os false p q → IsGood os room space n q (op.Pace t)
  pacing p q t i = record { paired = frame_there os p q i; goes = tt; has = tt; earlier = tt; loops = λ y. absurd y; frames = λ y. absurd y }

  -- to behind the Again at e, from the same loop
  leaving : (p q e i : ℕ) → IsIn os true p q → IsIn os true p e → slice_get os e ≡ Some (op.Again (p + 1)) → i ≡ suc e → IsGood os room space n q (op.Leave i)
  leaving p q e i a b h s =
      record { paired = omega (arith, loops_more os true p q a); goes = (e, p + 1, s, h, b.top ∙ sym a.top); has = tt; earlier = tt; loops = λ y. absurd y; frames = λ y. absurd y }

  calling : (p s a b : ℕ) → lo ≤ p → p ≤ hi → s < r → room s ≡ a → space s ≡ b → Fits p a b → IsGood os room space n p (op.Call s)
  calling p s a b l h less e e' f =
      let same = sym (own p l h) in
      let loops : loops_at os p + room s ≤ room r = omega (arith, e, f.loops) in
      let frames : frames_at os p + space s ≤ space r = omega (arith, e', f.frames) in
      record { paired = tt; goes = tt; has = tt; earlier = subst (λ v. s < v) same less; loops = subst (λ v. loops_at os p + room s ≤ room v) same loops; frames = subst (λ v. frames_at os p + space s ≤ space v) same frames }

  -- where a condition may lead from p, which is at least e operations long
  record IsTarget (p e i : ℕ) : Type 0 where
    behind : p + e ≤ i
    inside : i ≤ hi
    same : open_at os i ≡ open_at os p

  good_probe : (p : ℕ) (k : OutcomeTest) (t f : ℕ) → lo ≤ p → HasAt os p (probe k t f) → IsTarget p 3 t → IsTarget p 3 f → AreGood os room space n p (probe k t f)
  good_probe p k t f lp h ht hf =
      let one : open_at os (p + 1) ≡ open_at os p = next os p (op.Test k) h.0 in
      let two : open_at os (p + 1 + 1) ≡ open_at os p = next os (p + 1) (op.JumpFalse f) h.1.0 ∙ one in
      (test p k, (jump_false (p + 1) f (omega (arith, lp)) (omega (arith, hf.behind)) hf.inside (hf.same ∙ sym one), (jump (p + 1 + 1) t (omega (arith, lp)) (omega (arith, ht.behind)) ht.inside (ht.same ∙ sym two), tt)))

  good_branch : (c : Condition) (p t f : ℕ) → lo ≤ p → HasAt os p (branch p c t f) → IsTarget p (branch_size c) t → IsTarget p (branch_size c) f → AreGood os room space n p (branch p c t f)
  good_branch (asked k) p t f lp h ht hf = good_probe p k t f lp h ht hf
  good_branch (negated c) p t f lp h ht hf = good_branch c p f t lp h hf ht
  good_branch (both a b) p t f lp h ht hf =
      let m = p + branch_size a in
      let ha = has_front os p (branch p a m f) (branch m b t f) h in
      let hb = has_back os p m (branch p a m f) (branch m b t f) (omega (arith, length_branch a p m f)) h in
      let same : open_at os m ≡ open_at os p = branch_level os p m f a ha in
      joined p m (branch p a m f) (branch m b t f) (omega (arith, length_branch a p m f))
      (good_branch a p m f lp ha (record { behind = omega arith; inside = omega (arith, ht.behind, ht.inside); same = same }) (record { behind = omega (arith, hf.behind); inside = hf.inside; same = hf.same }))
      (good_branch b m t f (omega (arith, lp)) hb (record { behind = omega (arith, ht.behind); inside = ht.inside; same = ht.same ∙ sym same }) (record { behind = omega (arith, hf.behind); inside = hf.inside; same = hf.same ∙ sym same }))
  good_branch (either a b) p t f lp h ht hf =
      let m = p + branch_size a in
      let ha = has_front os p (branch p a t m) (branch m b t f) h in
      let hb = has_back os p m (branch p a t m) (branch m b t f) (omega (arith, length_branch a p t m)) h in
      let same : open_at os m ≡ open_at os p = branch_level os p t m a ha in
      joined p m (branch p a t m) (branch m b t f) (omega (arith, length_branch a p t m))
      (good_branch a p t m lp ha (record { behind = omega (arith, ht.behind); inside = ht.inside; same = ht.same }) (record { behind = omega arith; inside = omega (arith, ht.behind, ht.inside); same = same }))
      (good_branch b m t f (omega (arith, lp)) hb (record { behind = omega (arith, ht.behind); inside = ht.inside; same = ht.same ∙ sym same }) (record { behind = omega (arith, hf.behind); inside = hf.inside; same = hf.same ∙ sym same }))

  good_retry : (k p m : ℕ) → lo ≤ p → HasAt os p (retry_shape p m k) → Fits p 1 0 → p + 8 ≤ hi → m < n → AreGood os room space n p (retry_shape p m k)
  good_retry k p m lp h fits inside entry =
      let s = p + 1 in
      let st = open_at os s in
      let e1 : st ≡ open_at os p = next os p (op.Send m) h.0 in
      let e2 : open_at os (s + 1) ≡ s ∷ st = next os s (op.Loop k) h.1.0 in
      let e3 : open_at os (s + 1 + 1) ≡ s ∷ st = next os (s + 1) (op.Test Failed) h.1.1.0 ∙ e2 in
      let e4 : open_at os (s + 1 + 1 + 1) ≡ s ∷ st = next os (s + 1 + 1) (op.JumpFalse (p + 6)) h.1.1.1.0 ∙ e3 in
      let e5 : open_at os (s + 1 + 1 + 1 + 1) ≡ s ∷ st = next os (s + 1 + 1 + 1) (op.Alt m) h.1.1.1.1.0 ∙ e4 in
      let e6 : open_at os (s + 1 + 1 + 1 + 1 + 1) ≡ s ∷ st = next os (s + 1 + 1 + 1 + 1) (op.Jump (p + 7)) h.1.1.1.1.1.0 ∙ e5 in
      let e7 : open_at os (s + 1 + 1 + 1 + 1 + 1 + 1) ≡ s ∷ st = next os (s + 1 + 1 + 1 + 1 + 1) (op.Leave (p + 8)) h.1.1.1.1.1.1.0 ∙ e6 in
      let l = s + 1 + 1 + 1 + 1 + 1 in
      let e = s + 1 + 1 + 1 + 1 + 1 + 1 in
      let six : p + 6 ≡ l = omega arith in
      let seven : p + 7 ≡ e = omega arith in
      let two : p + 2 ≡ s + 1 = omega arith in
      let again : slice_get os e ≡ Some (op.Again (s + 1)) = h.1.1.1.1.1.1.1.0 ∙ ap (λ v. Some (op.Again v)) two in
      let at_leave = in_repeat os s l k h.1.0 e6 in
      let at_again = in_repeat os s e k h.1.0 e7 in (
        sending p m entry,
        (
          opening s k 1 0 (omega (arith, lp)) (omega (arith, inside)) (fits_same p s 1 0 1 0 e1 fits (omega arith) (omega arith)) (omega arith),
          (
            test (s + 1) Failed,
            (
              jump_false (s + 1 + 1) (p + 6) (omega (arith, lp)) (omega arith) (omega (arith, inside)) (ap (open_at os) six ∙ e6 ∙ sym e3),
              (
                resending (s + 1 + 1 + 1) m entry,
                (
                  jump (s + 1 + 1 + 1 + 1) (p + 7) (omega (arith, lp)) (omega arith) (omega (arith, inside)) (ap (open_at os) seven ∙ e7 ∙ sym e5),
                  (
                    leaving s l e (p + 8) at_leave at_again again (omega arith),
                    (subst (λ v. IsGood os room space n e (op.Again v)) (sym two) (turning s e at_again), tt),
                  ),
                ),
              ),
            ),
          ),
        ),
      )

  -- these two scopes say how many loops and how many frames each name has
  module _ (rs vs us : Scope ℕ) (kept : AreKept room r rs vs) (kept' : AreKept space r rs us) where
    pub good_shape : (t : Tree) (p m : ℕ) → CallsKnown rs t → lo ≤ p → HasAt os p (shape rs p m t) → Fits p (loops_in vs t) (frames_in us t) → p + size t ≤ hi → m + entries t ≤ n → AreGood os room space n p (shape rs p m t)
    good_shape (send l x) p m c lp h fits inside table = (sending p m (omega (arith, table)), tt)
    good_shape (retry k l x) p m c lp h fits inside table = good_retry k p m lp h fits (omega (arith, inside)) (omega (arith, table))
    good_shape (gap t) p m c lp h fits inside table = (spacing p t, tt)
    good_shape (repeat k b) p m c lp h fits inside table =
        let body = shape rs (p + 1) m b in
        let end = op.Again (p + 1) ∷ [] in
        let q = p + 1 + size b in
        let hb = has_front os (p + 1) body end h.1 in
        let e1 : open_at os (p + 1) ≡ p ∷ open_at os p = next os p (op.Loop k) h.0 in
        let e2 : open_at os q ≡ p ∷ open_at os p = level os rs (p + 1) m b hb ∙ e1 in (
          opening p k _ _ lp (omega (arith, inside)) fits (omega arith),
          joined (p + 1) q body end (omega (arith, length_shape b rs (p + 1) m))
              (good_shape b (p + 1) m c (omega (arith, lp)) hb (fits_in_loop p (p + 1) _ _ _ _ (in_repeat os p (p + 1) k h.0 e1) fits (omega arith) (omega arith)) (omega (arith, inside)) table)
              (turning p q (in_repeat os p q k h.0 e2), tt),
        )
    good_shape (timed k b) p m c lp h fits inside table =
        let body = shape rs (p + 1) m b in
        let end = op.Pace k ∷ [] in
        let q = p + 1 + size b in
        let hb = has_front os (p + 1) body end h.1 in
        let e1 : open_at os (p + 1) ≡ p ∷ open_at os p = next os p op.Begin h.0 in
        let e2 : open_at os q ≡ p ∷ open_at os p = level os rs (p + 1) m b hb ∙ e1 in (
          beginning p _ _ lp (omega (arith, inside)) fits (omega arith),
          joined (p + 1) q body end (omega (arith, length_shape b rs (p + 1) m))
              (good_shape b (p + 1) m c (omega (arith, lp)) hb (fits_in_frame p (p + 1) _ _ _ _ (in_timed os p (p + 1) h.0 e1) fits (omega arith) (omega arith)) (omega (arith, inside)) table)
              (pacing p q k (in_timed os p q h.0 e2), tt),
        )
    good_shape (choose c a b) p m kn lp h fits inside table =
        let t = p + branch_size c in
        let f = t + size a + 1 in
        let last = op.Jump (f + size b) ∷ shape rs f (m + entries a) b in
        let hc = has_front os p (branch p c t f) (shape rs t m a ++ last) h in
        let h1 = has_back os p t (branch p c t f) (shape rs t m a ++ last) (omega (arith, length_branch c p t f)) h in
        let ha = has_front os t (shape rs t m a) last h1 in
        let h2 = has_back os t (t + size a) (shape rs t m a) last (omega (arith, length_shape a rs t m)) h1 in
        let et : open_at os t ≡ open_at os p = branch_level os p t f c hc in
        let ea : open_at os (t + size a) ≡ open_at os t = level os rs t m a ha in
        let ef : open_at os f ≡ open_at os (t + size a) = next os (t + size a) (op.Jump (f + size b)) h2.0 in
        let eb : open_at os (f + size b) ≡ open_at os f = level os rs f (m + entries a) b h2.1 in
        let all : open_at os f ≡ open_at os p = ef ∙ ea ∙ et in
        joined p t (branch p c t f) (shape rs t m a ++ last) (omega (arith, length_branch c p t f))
        (good_branch c p t f lp hc (record { behind = omega arith; inside = omega (arith, inside); same = et }) (record { behind = omega arith; inside = omega (arith, inside); same = all }))
        (joined t (t + size a) (shape rs t m a) last (omega (arith, length_shape a rs t m))
        (good_shape a t m kn.0 (omega (arith, lp)) ha (fits_same p t _ _ _ _ et fits (omega arith) (omega arith)) (omega (arith, inside)) (omega (arith, table)))
        (jump (t + size a) (f + size b) (omega (arith, lp)) (omega arith) (omega (arith, inside)) (eb ∙ ef), good_shape b f (m + entries a) kn.1 (omega (arith, lp)) h2.1 (fits_same p f _ _ _ _ all fits (omega arith) (omega arith)) (omega (arith, inside)) (omega (arith, table))))
    good_shape (until c k b) p m kn lp h fits inside table =
        let l = p + 1 + branch_size c in
        let probes = branch (p + 1) c l (l + 1) in
        let body = shape rs (l + 1) m b in
        let back = op.Again (p + 1) ∷ [] in
        let last = op.Leave (l + size b + 2) ∷ (body ++ back) in
        let q = l + 1 + size b in
        let st = open_at os p in
        let hc = has_front os (p + 1) probes last h.1 in
        let hr = has_back os (p + 1) l probes last (omega (arith, length_branch c (p + 1) l (l + 1))) h.1 in
        let hb = has_front os (l + 1) body back hr.1 in
        let ha = has_back os (l + 1) q body back (omega (arith, length_shape b rs (l + 1) m)) hr.1 in
        let e1 : open_at os (p + 1) ≡ p ∷ st = next os p (op.Loop k) h.0 in
        let el : open_at os l ≡ p ∷ st = branch_level os (p + 1) l (l + 1) c hc ∙ e1 in
        let eb : open_at os (l + 1) ≡ p ∷ st = next os l (op.Leave (l + size b + 2)) hr.0 ∙ el in
        let eq : open_at os q ≡ p ∷ st = level os rs (l + 1) m b hb ∙ eb in
        let at_leave = in_repeat os p l k h.0 el in
        let at_again = in_repeat os p q k h.0 eq in (
          opening p k _ _ lp (omega (arith, inside)) fits (omega arith),
          joined (p + 1) l probes last (omega (arith, length_branch c (p + 1) l (l + 1)))
              (good_branch c (p + 1) l (l + 1) (omega (arith, lp)) hc (record { behind = omega arith; inside = omega (arith, inside); same = el ∙ sym e1 }) (record { behind = omega arith; inside = omega (arith, inside); same = eb ∙ sym e1 })) (
                leaving p l q (l + size b + 2) at_leave at_again ha.0 (omega arith),
                joined (l + 1) q body back (omega (arith, length_shape b rs (l + 1) m))
                    (good_shape b (l + 1) m kn (omega (arith, lp)) hb (fits_in_loop p (l + 1) _ _ _ _ (in_repeat os p (l + 1) k h.0 eb) fits (omega arith) (omega arith)) (omega (arith, inside)) table)
                    (turning p q at_again, tt),
              ),
        )
    good_shape nothing p m c lp h fits inside table = tt
    good_shape (chained a b) p m c lp h fits inside table =
        let q = p + size a in
        let ha = has_front os p (shape rs p m a) (shape rs q (m + entries a) b) h in
        let hb = has_back os p q (shape rs p m a) (shape rs q (m + entries a) b) (omega (arith, length_shape a rs p m)) h in
        let e : open_at os q ≡ open_at os p = level os rs p m a ha in
        joined p q (shape rs p m a) (shape rs q (m + entries a) b) (omega (arith, length_shape a rs p m))
        (good_shape a p m c.0 lp ha (fits_same p p _ _ _ _ refl fits (omega arith) (omega arith)) (omega (arith, inside)) (omega (arith, table)))
        (good_shape b q (m + entries a) c.1 (omega (arith, lp)) hb (fits_same p q _ _ _ _ e fits (omega arith) (omega arith)) (omega (arith, inside)) (omega (arith, table)))
    good_shape (call s) p m c lp h fits inside table =
        let k = kept s c in
        (calling p (meant_by 0 rs s) _ _ lp (omega (arith, inside)) k.0 k.1 (kept' s c).1 fits, tt)
    good_shape (define s b t) p m c lp h fits inside table = absurd c
