-- Each step costs no more than what it leaves less to be paid.
use Rattle.std.proofs.Common.{rules, ◌≡◌, ◌≢◌, ℕ, zero, suc, ◌+◌, ◌-◌, ◌*◌, ◌<◌, ◌≤◌, Bool, true, false, cond, List, [], ◌∷◌, length, get_or, drop, Option, Some, None, refl, sym, ap, ap₂, ◌∙◌, subst, ⊎_elim, arith}
use Rattle.std.specs.Prelude.{slice_get, nat_lt}
use Rattle.std.proofs.lemmas.Bool.{cases_lt}
use Rattle.mil_word.specs.declared.Line.{Line}
use Rattle.mil_message.specs.declared.messages.Message.{Message}
use Rattle.mil_message.specs.World.{World, Point, other_line}
use Rattle.frame_code.specs.declared.Op.{Op}
use Rattle.frame_code.specs.declared.Op.TheVariants.{Halt, Send, Alt, SetGap, Loop, Again, Leave, Jump, Test, JumpFalse, Call, Return, Begin, Pace}
use Rattle.frame_code.specs.Table.{Code, Registers, Running, Turn, goes_on, halted, stuck, sends, turns, leaves, counted, calls, comes_back, keeps_pace, act, step}
use Rattle.frame_code.specs.Routines.{routines, begin_of, routine_at, owner_at}
use Rattle.frame_code.specs.Loadable.{tail, after, open_at, is_loop, opens_loop, IsInLoop, IsInFrame, JumpsTo, IsLoadable}
use Rattle.frame_load.specs.declared.nesting.Kind.TheVariants.{Loops}
use Rattle.frame_load.specs.Marks.{count_in, open_of}
use Rattle.frame_load.proofs.Counts.{IsClosing, count_more, count_same}
use Rattle.frame_load.specs.Budget.{cost_of}
use Rattle.frame_load.proofs.Left.{turn, rest}
use Rattle.frame_load.proofs.Weights.{all_sums, price, rest_total}
use Rattle.frame_load.proofs.Opened.{there, within, opened, IsReturn, same_routine, home, open_behind, home_behind, EndsClosed, same_home, begun_at, begun_inside}
use Rattle.frame_load.proofs.Never.{Fits}
use Rattle.frame_load.proofs.Steps.{behind, rest_split, inner_last, drop_at, closed_for_good, along}

module _ (cost : Op → ℕ) {State Outcome : Type 0} (w : World State Outcome) (code : Code) (ok : IsLoadable code) where
  abbrev pub pay : Op → ℕ
  pay = price cost code.operations

  abbrev pub os : List Op
  os = code.operations

  -- a loop that opens at a place, as the turns that are left and what one costs
  abbrev pub loop_at : ℕ → ℕ → ℕ × ℕ
  loop_at c s = (c, turn pay (drop (suc s) os))

  -- the open brackets, each loop with the next counter
  abbrev pub note : List ℕ → List ℕ → List (ℕ × ℕ)
  note cs [] = []
  note cs (s ∷ ss) = cond (opens_loop os s) (loop_at (get_or cs 0 0) s ∷ note (tail cs) ss) ((1, 0) ∷ note cs ss)

  note_loop : (c : ℕ) (cs : List ℕ) (s : ℕ) (ss : List ℕ) → opens_loop os s ≡ true → note (c ∷ cs) (s ∷ ss) ≡ loop_at c s ∷ note cs ss
  note_loop c cs s ss e = ap (λ b. cond b (loop_at c s ∷ note cs ss) ((1, 0) ∷ note (c ∷ cs) ss)) e

  note_frame : (cs : List ℕ) (s : ℕ) (ss : List ℕ) → opens_loop os s ≡ false → note cs (s ∷ ss) ≡ (1, 0) ∷ note cs ss
  note_frame cs s ss e = ap (λ b. cond b (loop_at (get_or cs 0 0) s ∷ note (tail cs) ss) ((1, 0) ∷ note cs ss)) e

  -- how many loops a place stands in
  abbrev pub loops : ℕ → ℕ
  loops p = open_of Loops os p

  -- what is left of a routine from a place on
  abbrev pub left_at : ℕ → List ℕ → ℕ
  left_at p cs = rest pay (note cs (open_at os p)) (drop p os)

  -- and of those that it was called by
  abbrev pub left : ℕ → List ℕ → List ℕ → ℕ
  left p cs [] = left_at p cs
  left p cs (q ∷ qs) = left_at p cs + left q (drop (loops p) cs) qs

  abbrev pub left_of : Registers → ℕ
  left_of r = left r.place r.counters r.returns

  abbrev pub Costs : Registers → Turn (Running State Outcome) → Type 0
  Costs r (goes_on x) = left_of x.at + cost_of cost (slice_get os r.place) ≤ left_of r
  Costs r halted = cost_of cost (slice_get os r.place) ≤ left_of r
  Costs r stuck = Unit {0}

  -- within a routine the outer ones stand as they stood
  inside_of : (p q c : ℕ) (cs ds qs : List ℕ) → drop (loops q) ds ≡ drop (loops p) cs → left_at q ds + c ≤ left_at p cs → left q ds qs + c ≤ left p cs qs
  inside_of p q c cs ds [] e h = h
  inside_of p q c cs ds (b ∷ qs) e h = omega (arith, h, ap (λ z. left b z qs) e)

  part_of : (p : ℕ) (cs qs : List ℕ) → left_at p cs ≤ left p cs qs
  part_of p cs [] = omega arith
  part_of p cs (q ∷ qs) = omega arith

  closed : EndsClosed os
  closed p e = ok.nested.paired p Return e

  paired : (q : ℕ) (o : Op) → IsClosing o → slice_get os q ≡ Some o → 0 < length (open_at os q)
  paired q (Again i) u e = by (open_at os q) (ok.nested.paired q (Again i) e)
    where
      by : (st : List ℕ) → IsInLoop os st → 0 < length st
      by [] h = absurd h
      by (s ∷ st) h = omega arith
  paired q (Pace t) u e = by (open_at os q) (ok.nested.paired q (Pace t) e)
    where
      by : (st : List ℕ) → IsInFrame os st → 0 < length st
      by [] h = absurd h
      by (s ∷ st) h = omega arith
  paired q _ u e = absurd u

  -- an operation that opens and closes no bracket
  abbrev IsPlain : ℕ → Op → Type 0
  IsPlain p o = (after (Some o) p (open_at os p) ≡ open_at os p)
      × ((zs : List (ℕ × ℕ)) → rest pay zs (o ∷ drop (suc p) os) ≡ pay o + rest pay zs (drop (suc p) os))

  plain_open : (p : ℕ) (o : Op) → slice_get os p ≡ Some o → IsPlain p o → open_at os (suc p) ≡ open_at os p
  plain_open p o at f = ap (λ v. after v p (open_at os p)) at ∙ f.0

  plain_cost : (p : ℕ) (cs : List ℕ) (o : Op) → slice_get os p ≡ Some o → IsPlain p o → left_at p cs ≡ pay o + left_at (suc p) cs
  plain_cost p cs o at f =
      ap (rest pay (note cs (open_at os p))) (drop_at os p o at) ∙ f.1 (note cs (open_at os p)) ∙ ap (λ ss. pay o + rest pay (note cs ss) (drop (suc p) os)) (sym (plain_open p o at f))

  -- the same, at the place plus one
  plain_less : (r : Registers) (q : ℕ) (o : Op) → slice_get os r.place ≡ Some o → IsPlain r.place o → q ≡ suc r.place → left q r.counters r.returns + cost_of cost (slice_get os r.place) ≤ left_of r
  plain_less r q o at f here =
      inside_of r.place q (cost_of cost (slice_get os r.place)) r.counters r.counters r.returns (ap (λ z. drop (loops z) r.counters) here ∙ ap (λ st. drop (count_in Loops os st) r.counters) (plain_open r.place o at f))
      (omega (arith, ap (cost_of cost) at, plain_cost r.place r.counters o at f, ap (λ z. left_at z r.counters) here))

  sends_cost : (r : Registers) (p : Point State Outcome) (o : Op) (on : Line → Line) → slice_get os r.place ≡ Some o → IsPlain r.place o → (v : Option (Line × Message)) → Costs r (sends w v on r p)
  sends_cost r p o on at f None = tt
  sends_cost r p o on at f (Some x) = plain_less r (r.place + 1) o at f (omega arith)

  jump_less : (r : Registers) (i : ℕ) (o : Op) → slice_get os r.place ≡ Some o → IsPlain r.place o → (IsReturn o → ⊥) → JumpsTo os r.place i
      → left i r.counters r.returns + cost_of cost (slice_get os r.place) ≤ left_of r
  jump_less r i o at f going g =
      let p = r.place in
      let next = plain_open p o at f in
      let there : owner_at os (suc p) ≡ owner_at os i = same_routine os p o at going ∙ sym g.3 in
      let a = along os pay paired (note r.counters (open_at os p)) (open_at os p) i g.2 (omega (arith, g.1)) (i - suc p) (suc p) [] [] (omega (arith, g.0)) there next refl in
      inside_of p i (cost_of cost (slice_get os p)) r.counters r.counters r.returns (ap (λ st. drop (count_in Loops os st) r.counters) g.2)
      (omega (arith, ap (cost_of cost) at, a.0, plain_cost p r.counters o at f, ap (λ ss. rest pay (note r.counters ss) (drop (suc p) os)) next, ap (λ ss. rest pay (note r.counters ss) (drop i os)) g.2))

  loop_cost : (r : Registers) (n : ℕ) → slice_get os r.place ≡ Some (Loop n) → left (r.place + 1) (n ∷ r.counters) r.returns + cost_of cost (slice_get os r.place) ≤ left_of r
  loop_cost r n at =
      let p = r.place in
      let cs = r.counters in
      let st = open_at os p in
      let next : open_at os (suc p) ≡ p ∷ st = ap (λ v. after v p st) at in
      let here : p + 1 ≡ suc p = omega arith in
      let is : opens_loop os p ≡ true = ap is_loop at in
      let kept : drop (loops (p + 1)) (n ∷ cs) ≡ drop (loops p) cs = ap (λ z. drop (loops z) (n ∷ cs)) here ∙ ap (λ ss. drop (count_in Loops os ss) (n ∷ cs)) next ∙ ap (λ k. drop k (n ∷ cs)) (count_more Loops os p st is) in
      inside_of p (p + 1) (cost_of cost (slice_get os p)) cs (n ∷ cs) r.returns kept
      (omega (
        arith,
        ap (cost_of cost) at,
        ap (rest pay (note cs st)) (drop_at os p (Loop n) at),
        ap (λ q. left_at q (n ∷ cs)) here,
        ap (λ ss. rest pay (note (n ∷ cs) ss) (drop (suc p) os)) next,
        ap (λ zs. rest pay zs (drop (suc p) os)) (note_loop n cs p st is),
      ))

  begin_cost : (r : Registers) → slice_get os r.place ≡ Some Begin → left (r.place + 1) r.counters r.returns + cost_of cost (slice_get os r.place) ≤ left_of r
  begin_cost r at =
      let p = r.place in
      let cs = r.counters in
      let st = open_at os p in
      let next : open_at os (suc p) ≡ p ∷ st = ap (λ v. after v p st) at in
      let here : p + 1 ≡ suc p = omega arith in
      let is : opens_loop os p ≡ false = ap is_loop at in
      let kept : drop (loops (p + 1)) cs ≡ drop (loops p) cs = ap (λ z. drop (loops z) cs) here ∙ ap (λ ss. drop (count_in Loops os ss) cs) next ∙ ap (λ k. drop k cs) (count_same Loops os p st is) in
      inside_of p (p + 1) (cost_of cost (slice_get os p)) cs cs r.returns kept
      (omega (
        arith,
        ap (cost_of cost) at,
        ap (rest pay (note cs st)) (drop_at os p Begin at),
        ap (λ q. left_at q cs) here,
        ap (λ ss. rest pay (note cs ss) (drop (suc p) os)) next,
        ap (λ zs. rest pay zs (drop (suc p) os)) (note_frame cs p st is),
      ))

  -- the innermost bracket of an Again is a loop, and that of a Pace is not
  loop_closed : (q back : ℕ) (s : ℕ) (ss : List ℕ) → slice_get os q ≡ Some (Again back) → open_at os q ≡ s ∷ ss → opens_loop os s ≡ true
  loop_closed q back s ss at e = subst (IsInLoop os) e (ok.nested.paired q (Again back) at)

  frame_closed : (q h : ℕ) (s : ℕ) (ss : List ℕ) → slice_get os q ≡ Some (Pace h) → open_at os q ≡ s ∷ ss → opens_loop os s ≡ false
  frame_closed q h s ss at e = subst (IsInFrame os) e (ok.nested.paired q (Pace h) at)

  -- what is left at the end of a turn
  again_left : (q c back : ℕ) (cs : List ℕ) (s : ℕ) (ss : List ℕ) → slice_get os q ≡ Some (Again back) → open_at os q ≡ s ∷ ss
      → left_at q (c ∷ cs) ≡ pay (Again back) + ((c - 1) * turn pay (drop (suc s) os) + rest pay (note cs ss) (drop (suc q) os))
  again_left q c back cs s ss at e =
      ap₂ (λ st d. rest pay (note (c ∷ cs) st) d) e (drop_at os q (Again back) at) ∙ ap (λ zs. rest pay zs (Again back ∷ drop (suc q) os)) (note_loop c cs s ss (loop_closed q back s ss at e))

  -- the next turn
  turn_left : (q k back : ℕ) (cs : List ℕ) (s : ℕ) (ss : List ℕ) → slice_get os q ≡ Some (Again back) → open_at os q ≡ s ∷ ss → q < length os
      → left_at (suc s) (suc k ∷ cs) ≤ turn pay (drop (suc s) os) + k * turn pay (drop (suc s) os) + rest pay (note cs ss) (drop (suc q) os)
  turn_left q k back cs s ss at e inside =
      let o = opened os q q s ss (omega arith) e in
      let z = note cs ss in
      let ds = drop (suc s) os in
      let b = turn pay ds in
      let d = drop (suc q) os in
      let after_loop : open_at os (suc s) ≡ s ∷ ss = open_behind os q s ss o in
      let there : owner_at os (suc s) ≡ owner_at os q = home_behind os q s ss o ∙ home os closed q q s ss (omega arith) e in
      let value : left_at (suc s) (suc k ∷ cs) ≡ rest pay ((suc k, b) ∷ z) ds = ap (λ st. rest pay (note (suc k ∷ cs) st) ds) after_loop ∙ ap (λ zs. rest pay zs ds) (note_loop (suc k) cs s ss (loop_closed q back s ss at e)) in
      let a = along os pay paired z (s ∷ ss) q e (omega (arith, inside)) (q - suc s) (suc s) [] [] (omega (arith, o.2)) there after_loop refl in
      let where_to : behind ((suc k, b) ∷ []) ds ≡ d = a.1 (suc k, b) ∙ ap (behind ((suc k, b) ∷ [])) (drop_at os q (Again back) at) in
      let less : suc k - 1 ≡ k = omega arith in
      omega (arith, value, rest_split pay ds ((suc k, b) ∷ []) z, inner_last pay ds [] (suc k) b, ap (rest pay z) where_to, ap (λ v. v * b) less)

  -- the counters of the outer loops
  kept_of : (q c : ℕ) (cs ds : List ℕ) (s : ℕ) (ss : List ℕ) → open_at os q ≡ s ∷ ss → opens_loop os s ≡ true → ds ≡ c ∷ cs → drop (loops q) ds ≡ drop (count_in Loops os ss) cs
  kept_of q c cs ds s ss e is ec = ap₂ (λ st zs. drop (count_in Loops os st) zs) e ec ∙ ap (λ k. drop k (c ∷ cs)) (count_more Loops os s ss is)

  turns_cost : (r : Registers) (p : Point State Outcome) (i : ℕ) (cs : List ℕ) → r.counters ≡ cs → slice_get os r.place ≡ Some (Again i) → Fits code r → Costs r (turns w cs i r p)
  turns_cost r p i [] ec at f = tt
  turns_cost r p i (c ∷ cs) ec at f = by_count (c - 1) refl
    where
      by_count : (k : ℕ) → c - 1 ≡ k → Costs r (counted w k cs i r p)
      by_count zero ek =
          let g = ok.jumps r.place (Again i) at in
          let q = r.place in
          let is = loop_closed q i g.0 g.1 at g.2 in
          let next : open_at os (suc q) ≡ g.1 = ap (λ v. after v q (open_at os q)) at ∙ ap tail g.2 in
          let here : q + 1 ≡ suc q = omega arith in
          let kept : drop (loops (q + 1)) cs ≡ drop (loops q) r.counters = ap (λ z. drop (loops z) cs) here ∙ ap (λ st. drop (count_in Loops os st) cs) next ∙ sym (kept_of q c cs r.counters g.0 g.1 g.2 is ec) in
          inside_of q (q + 1) (cost_of cost (slice_get os q)) r.counters cs r.returns kept
          (omega (arith, ap (cost_of cost) at, ap (left_at q) ec, again_left q c i cs g.0 g.1 at g.2, ap (λ v. left_at v cs) here, ap (λ st. rest pay (note cs st) (drop (suc q) os)) next))
      by_count (suc k) ek =
          let g = ok.jumps r.place (Again i) at in
          let q = r.place in
          let is = loop_closed q i g.0 g.1 at g.2 in
          let b = turn pay (drop (suc g.0) os) in
          let prod : (c - 1) * b ≡ b + k * b = ap (λ v. v * b) ek ∙ (omega arith) in
          let o = opened os q q g.0 g.1 (omega arith) g.2 in
          let after_loop : open_at os i ≡ g.0 ∷ g.1 = ap (open_at os) g.3 ∙ open_behind os q g.0 g.1 o in
          let kept : drop (loops i) (suc k ∷ cs) ≡ drop (loops q) r.counters = kept_of i (suc k) cs (suc k ∷ cs) g.0 g.1 after_loop is refl ∙ sym (kept_of q c cs r.counters g.0 g.1 g.2 is ec) in
          inside_of q i (cost_of cost (slice_get os q)) r.counters (suc k ∷ cs) r.returns kept
          (omega (arith, ap (cost_of cost) at, ap (left_at q) ec, again_left q c i cs g.0 g.1 at g.2, ap (λ v. left_at v (suc k ∷ cs)) g.3, turn_left q k i cs g.0 g.1 at g.2 f.inside, prod))

  -- a frame has one turn
  paces_cost : (r : Registers) (p : Point State Outcome) (h : ℕ) (bs : List ℕ) → slice_get os r.place ≡ Some (Pace h) → Costs r (keeps_pace w bs h r p)
  paces_cost r p h [] at = tt
  paces_cost r p h (b ∷ bs) at = by (open_at os r.place) refl
    where
      by : (st : List ℕ) → open_at os r.place ≡ st → left (r.place + 1) r.counters r.returns + cost_of cost (slice_get os r.place) ≤ left_of r
      by [] er = absurd (omega (arith, paired r.place (Pace h) tt at, ap length er))
      by (s ∷ ss) er =
          let q = r.place in
          let cs = r.counters in
          let is = frame_closed q h s ss at er in
          let next : open_at os (suc q) ≡ ss = ap (λ v. after v q (open_at os q)) at ∙ ap tail er in
          let here : q + 1 ≡ suc q = omega arith in
          let kept : drop (loops (q + 1)) cs ≡ drop (loops q) cs =
          ap (λ z. drop (loops z) cs) here ∙ ap (λ st. drop (count_in Loops os st) cs) next ∙ sym (ap (λ st. drop (count_in Loops os st) cs) er ∙ ap (λ k. drop k cs) (count_same Loops os s ss is)) in
          inside_of q (q + 1) (cost_of cost (slice_get os q)) cs cs r.returns kept
          (omega (
            arith,
            ap (cost_of cost) at,
            ap₂ (λ st d. rest pay (note cs st) d) er (drop_at os q (Pace h) at),
            ap (λ zs. rest pay zs (Pace h ∷ drop (suc q) os)) (note_frame cs s ss is),
            ap (λ v. left_at v cs) here,
            ap (λ st. rest pay (note cs st) (drop (suc q) os)) next,
          ))

  -- what is left behind a loop that is left
  leave_left : (r : Registers) (q back c i : ℕ) (cs : List ℕ) (s : ℕ) (ss : List ℕ) → slice_get os r.place ≡ Some (Leave i) → r.counters ≡ c ∷ cs → open_at os r.place ≡ s ∷ ss → slice_get os q ≡ Some (Again back) → open_at os q ≡ s ∷ ss → r.place ≤ q
      → left (suc q) cs r.returns + cost_of cost (slice_get os r.place) ≤ left_of r
  leave_left r q back c i cs s ss al ec er at eq le =
      let p = r.place in
      let b = turn pay (drop (suc s) os) in
      let z = note cs ss in
      let inside = within os q (Again back) at in
      let is = loop_closed q back s ss at eq in
      let apart : p ≢ q = λ e. absurd (let no : Some (Leave i) ≡ Some (Again back) = sym al ∙ ap (slice_get os) e ∙ at in cc) in
      let next_er : open_at os (suc p) ≡ s ∷ ss = ap (λ v. after v p (open_at os p)) al ∙ er in
      let there : owner_at os (suc p) ≡ owner_at os q = same_routine os p (Leave i) al (λ x. x) ∙ same_home os closed p q (er ∙ sym eq) (omega (arith, ap length eq)) in
      let a = along os pay paired ((c, b) ∷ z) (s ∷ ss) q eq (omega (arith, inside)) (q - suc p) (suc p) [] [] (omega (arith, le, apart)) there next_er refl in
      let here : left_at p r.counters ≡ rest pay ((c, b) ∷ z) (drop p os) = ap₂ (λ cs' st. rest pay (note cs' st) (drop p os)) ec er ∙ ap (λ zs. rest pay zs (drop p os)) (note_loop c cs s ss is) in
      let paid : rest pay ((c, b) ∷ z) (drop p os) ≡ pay (Leave i) + rest pay ((c, b) ∷ z) (drop (suc p) os) = ap (rest pay ((c, b) ∷ z)) (drop_at os p (Leave i) al) in
      let next : open_at os (suc q) ≡ ss = ap (λ v. after v q (open_at os q)) at ∙ ap tail eq in
      let end : rest pay ((c, b) ∷ z) (drop q os) ≡ pay (Again back) + ((c - 1) * b + rest pay z (drop (suc q) os)) = ap (rest pay ((c, b) ∷ z)) (drop_at os q (Again back) at) in
      let kept : drop (loops (suc q)) cs ≡ drop (loops p) r.counters = ap (λ st. drop (count_in Loops os st) cs) next ∙ sym (kept_of p c cs r.counters s ss er is ec) in
      inside_of p (suc q) (cost_of cost (slice_get os p)) r.counters cs r.returns kept
      (omega (arith, ap (cost_of cost) al, a.0, here, paid, end, ap (λ st. rest pay (note cs st) (drop (suc q) os)) next))

  leaves_cost : (r : Registers) (p : Point State Outcome) (i : ℕ) (cs : List ℕ) → r.counters ≡ cs → slice_get os r.place ≡ Some (Leave i) → Fits code r → Costs r (leaves w cs i r p)
  leaves_cost r p i [] ec at f = tt
  leaves_cost r p i (c ∷ cs) ec at f = by_loops (open_at os r.place) refl
    where
      by_loops : (st : List ℕ) → open_at os r.place ≡ st → Costs r (leaves w (c ∷ cs) i r p)
      by_loops [] er = absurd (omega (arith, ok.nested.paired r.place (Leave i) at, ap (count_in Loops os) er))
      by_loops (s ∷ ss) er =
          let g = ok.jumps r.place (Leave i) at in
          let q = g.0 in
          let eq : open_at os q ≡ s ∷ ss = g.4 ∙ er in
          let less = ⊎_elim
          (λ lt. let same : suc q + (r.place - suc q) ≡ r.place = omega (arith, lt) in absurd (closed_for_good os q (r.place - suc q) (Again g.1) s ss tt g.3 eq (ap (open_at os) same ∙ er)))
          (λ le. leave_left r q g.1 c i cs s ss at ec er g.3 eq le) (cases_lt q r.place) in
          omega (arith, less, ap (λ v. left v cs r.returns) g.2)

  branch_cost : (r : Registers) (i : ℕ) (b : Bool) → slice_get os r.place ≡ Some (JumpFalse i) → left (cond b (r.place + 1) i) r.counters r.returns + cost_of cost (slice_get os r.place) ≤ left_of r
  branch_cost r i true at = plain_less r (r.place + 1) (JumpFalse i) at (refl, λ zs. refl) (omega arith)
  branch_cost r i false at = jump_less r i (JumpFalse i) at (refl, λ zs. refl) (λ x. x) (ok.jumps r.place (JumpFalse i) at)

  -- a Call costs itself and its routine
  calls_cost : (r : Registers) (p : Point State Outcome) (k : ℕ) → slice_get os r.place ≡ Some (Call k) → Fits code r → Costs r (calls w (routine_at os k) r p)
  calls_cost r p k at f = by (nat_lt k (routines os)) refl
    where
      by : (v : Bool) → nat_lt k (routines os) ≡ v → Costs r (calls w (cond v (Some (begin_of os k)) None) r p)
      by false e = tt
      by true e =
          let b = begin_of os k in
          let few : k < routines os = search rules in
          let g = begun_at os closed k (omega (arith, few)) in
          let whole = rest_total cost code ok b (let h = begun_inside os k b ok.ends g in omega (arith, h)) g.none_open in
          let next = plain_open r.place (Call k) at (refl, λ zs. refl) in
          let here : r.place + 1 ≡ suc r.place = omega arith in
          let first : left_at b r.counters ≡ rest pay [] (drop b os) = ap (λ st. rest pay (note r.counters st) (drop b os)) g.none_open in
          let kept : drop (loops b) r.counters ≡ r.counters = ap (λ st. drop (count_in Loops os st) r.counters) g.none_open in
          let more : left (r.place + 1) r.counters r.returns + (cost (Call k) + get_or (all_sums cost os) k 0) ≤ left_of r =
          inside_of r.place (r.place + 1) (cost (Call k) + get_or (all_sums cost os) k 0) r.counters r.counters r.returns (ap (λ z. drop (loops z) r.counters) here ∙ ap (λ st. drop (count_in Loops os st) r.counters) next)
          (omega (arith, plain_cost r.place r.counters (Call k) at (refl, λ zs. refl), ap (λ z. left_at z r.counters) here)) in
          omega (arith, ap (cost_of cost) at, whole, first, more, ap (λ z. left (r.place + 1) z r.returns) kept, ap (λ j. get_or (all_sums cost os) j 0) g.routine)

  -- a Return goes on with what is left of the caller
  backs_cost : (r : Registers) (p : Point State Outcome) (qs : List ℕ) → r.returns ≡ qs → slice_get os r.place ≡ Some Return → Costs r (comes_back w qs r p)
  backs_cost r p [] e at = tt
  backs_cost r p (q ∷ qs) e at =
      let none : open_at os r.place ≡ [] = ok.nested.paired r.place Return at in
      let here : left_at r.place r.counters ≡ pay Return = ap₂ (λ st ds. rest pay (note r.counters st) ds) none (drop_at os r.place Return at) in
      omega (arith, ap (cost_of cost) at, here, ap (left r.place r.counters) e, ap (λ st. left q (drop (count_in Loops os st) r.counters) qs) none)

  pub step_costs : (r : Registers) (p : Point State Outcome) → Fits code r → Costs r (step w code r p)
  step_costs r p f = let x = there os r.place f.inside in subst (λ v. Costs r (act w v code r p)) (sym x.1) (by_op x.0 x.1)
    where
      by_op : (o : Op) → slice_get os r.place ≡ Some o → Costs r (act w (Some o) code r p)
      by_op Halt at = omega (arith, ap (cost_of cost) at, plain_cost r.place r.counters Halt at (refl, λ zs. refl), part_of r.place r.counters r.returns)
      by_op (Send m) at = sends_cost r p (Send m) (λ l. l) at (refl, λ zs. refl) (slice_get code.messages m)
      by_op (Alt m) at = sends_cost r p (Alt m) (λ l. other_line r.line) at (refl, λ zs. refl) (slice_get code.messages m)
      by_op (SetGap t) at = plain_less r (r.place + 1) (SetGap t) at (refl, λ zs. refl) (omega arith)
      by_op (Loop n) at = loop_cost r n at
      by_op (Again i) at = turns_cost r p i r.counters refl at f
      by_op (Leave i) at = leaves_cost r p i r.counters refl at f
      by_op (Jump i) at = jump_less r i (Jump i) at (refl, λ zs. refl) (λ x. x) (ok.jumps r.place (Jump i) at)
      by_op (Test k) at = plain_less r (r.place + 1) (Test k) at (refl, λ zs. refl) (omega arith)
      by_op (JumpFalse i) at = branch_cost r i r.flag at
      by_op (Call k) at = calls_cost r p k at f
      by_op Return at = backs_cost r p r.returns refl at
      by_op Begin at = begin_cost r at
      by_op (Pace h) at = paces_cost r p h r.frames at
