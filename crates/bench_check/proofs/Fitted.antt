-- How long frames take at worst, level by level, where each count is cut at 100 s.
use Rattle.std.proofs.Common.{◌≡◌, ℕ, zero, suc, ◌+◌, ◌*◌, ◌≤◌, max, Bool, true, false, List, [], ◌∷◌, ◌++◌, length, refl, ap, ap₂, sym, ◌∙◌, arith, rules, Box, if◌then◌else◌, append_assoc, append-nil}
use Rattle.mil_message.specs.declared.forms.Form.{Form}
use Rattle.mil_message.specs.declared.forms.Form.TheVariants.{ToTerminal, FromTerminal, Between, Mode, ModeFrom, ModeTo, ToAll, BetweenAll, ModeAll, ModeAllTo}
use Rattle.mil_message.specs.Forms.{replies_due}
use Rattle.frame_tree.specs.declared.Frame.{Frame, Timed as timed_frame, the_lemmas}
use Rattle.frame_tree.specs.Tree.{Tree, tree_of, send, retry, gap, repeat, choose, until, timed, nothing, chained, call, define}
use Rattle.frame_tree.specs.Names.{Scope, meant_by, same_bytes}
use Rattle.frame_tree.proofs.Capped.{Alike, alike}
use Rattle.bench_check.specs.Fitting.{set_gap, ticks_in, most, frames_in}
use Rattle.bench_check.specs.declared.fitting.Timed.{Timed}

-- at most two replies are due
pub few_replies : (form : Form) → length (replies_due form) ≤ 2
few_replies (ToTerminal address subaddress words) = omega arith
few_replies (FromTerminal address subaddress count) = omega arith
few_replies (Between sender sender_subaddress receiver receiver_subaddress count) = omega arith
few_replies (Mode address subaddress code) = omega arith
few_replies (ModeFrom address subaddress code) = omega arith
few_replies (ModeTo address subaddress code word) = omega arith
few_replies (ToAll subaddress words) = omega arith
few_replies (BetweenAll sender sender_subaddress receiver_subaddress count) = omega arith
few_replies (ModeAll subaddress code) = omega arith
few_replies (ModeAllTo subaddress code word) = omega arith

pub gap_more : (t a b : Tree) (so_far one new d : ℕ) → t ≡ chained a b → one ≡ set_gap a → new ≡ max one so_far → max so_far (set_gap t) ≡ d → max new (set_gap b) ≡ d
gap_more t a b so_far one new d e h n i = omega (arith, ap set_gap e, h, n, i)

pub gap_done : (t u : Tree) (so_far : ℕ) → t ≡ nothing → max so_far (set_gap t) ≡ set_gap u → so_far ≡ set_gap u
gap_done t u so_far e i = omega (arith, ap set_gap e, i)

pub ticks_more : (g : ℕ) (ds : Scope ℕ) (t a b : Tree) (so_far one new d : ℕ) → t ≡ chained a b → one ≡ most (ticks_in g ds a) → new ≡ most (so_far + one) → most (so_far + ticks_in g ds t) ≡ d → most (new + ticks_in g ds b) ≡ d
ticks_more g ds t a b so_far one new d e h n i = omega (arith, ap (ticks_in g ds) e, h, n, i)

pub ticks_done : (g : ℕ) (ds : Scope ℕ) (t u : Tree) (so_far : ℕ) → t ≡ nothing → so_far ≤ 1000000000 → most (so_far + ticks_in g ds t) ≡ most (ticks_in g ds u) → so_far ≡ most (ticks_in g ds u)
ticks_done g ds t u so_far e s i = omega (arith, ap (ticks_in g ds) e, s, i)

-- names in scope whose numbers are alike up to 100 s

named_choice : (b : Bool) (x y u v : ℕ) → most x ≡ most y → most u ≡ most v → most (if b then x else u) ≡ most (if b then y else v)
named_choice true x y u v e f = e
named_choice false x y u v e f = f

named_alike : (ds es : Scope ℕ) (n : List ℕ) → Alike 1000000000 ds es → most (meant_by 0 ds n) ≡ most (meant_by 0 es n)
named_alike [] [] n h = refl
named_alike [] (e ∷ es) n h = absurd h
named_alike (d ∷ ds) [] n h = absurd h
named_alike (d ∷ ds) (e ∷ es) n h =
    named_choice (same_bytes d.0 n) d.1 e.1 (meant_by 0 ds n) (meant_by 0 es n) h.1 (named_alike ds es n h.2)
    ∙ ap (λ m. most (if same_bytes m n then e.1 else meant_by 0 es n)) h.0

times_alike : (n a b : ℕ) → most a ≡ most b → most (n * a) ≡ most (n * b)
times_alike zero a b e = omega (arith, e)
times_alike (suc n) a b e = omega (arith, e, times_alike n a b e)

pub ticks_alike : (g : ℕ) (t : Tree) (ds es : Scope ℕ) → Alike 1000000000 ds es → most (ticks_in g ds t) ≡ most (ticks_in g es t)
ticks_alike g (send l m) ds es h = refl
ticks_alike g (retry n l m) ds es h = refl
ticks_alike g (gap t) ds es h = refl
ticks_alike g (repeat n b) ds es h = times_alike n (ticks_in g ds b) (ticks_in g es b) (ticks_alike g b ds es h)
ticks_alike g (choose c a b) ds es h = omega (arith, ticks_alike g a ds es h, ticks_alike g b ds es h)
ticks_alike g (until c n b) ds es h = times_alike n (ticks_in g ds b) (ticks_in g es b) (ticks_alike g b ds es h)
ticks_alike g (timed t b) ds es h = omega (arith, ticks_alike g b ds es h)
ticks_alike g nothing ds es h = refl
ticks_alike g (chained a b) ds es h = omega (arith, ticks_alike g a ds es h, ticks_alike g b ds es h)
ticks_alike g (call n) ds es h = named_alike ds es n h
ticks_alike g (define n b r) ds es h = ticks_alike g r _ _ (refl, ticks_alike g b ds es h, h)

-- a number that is cut already may stand for the whole
pub ticks_cut : (g : ℕ) (n : List ℕ) (c : ℕ) (b r : Tree) (ds : Scope ℕ) → c ≡ most (ticks_in g ds b) → most (ticks_in g ((n, c) ∷ ds) r) ≡ most (ticks_in g ds (define n b r))
ticks_cut g n c b r ds e = ticks_alike g r _ _ (refl, omega (arith, e), alike 1000000000 ds)

pub times_cut : (n a c : ℕ) → c ≡ most a → most (n * c) ≡ most (n * a)
times_cut n a c e = times_alike n c a (omega (arith, e))

-- the same names with numbers that are alike give the same frames
pub frames_alike : (g : ℕ) (t : Tree) (ds es : Scope ℕ) → Alike 1000000000 ds es → frames_in g ds t ≡ frames_in g es t
frames_alike g (send l m) ds es h = refl
frames_alike g (retry n l m) ds es h = refl
frames_alike g (gap t) ds es h = refl
frames_alike g (repeat n b) ds es h = frames_alike g b ds es h
frames_alike g (choose c a b) ds es h = ap₂ (λ x y. x ++ y) (frames_alike g a ds es h) (frames_alike g b ds es h)
frames_alike g (until c n b) ds es h = frames_alike g b ds es h
frames_alike g (timed t b) ds es h = ap₂ (λ n fs. record { hundreds = t; ticks = n } ∷ fs) (ticks_alike g b ds es h) (frames_alike g b ds es h)
frames_alike g nothing ds es h = refl
frames_alike g (chained a b) ds es h = ap₂ (λ x y. x ++ y) (frames_alike g a ds es h) (frames_alike g b ds es h)
frames_alike g (call n) ds es h = refl
frames_alike g (define n b r) ds es h = ap₂ (λ x y. x ++ y) (frames_alike g b ds es h) (frames_alike g r _ _ (refl, ticks_alike g b ds es h, h))

pub frames_cut : (g : ℕ) (n : List ℕ) (c : ℕ) (b r : Tree) (ds : Scope ℕ) → c ≡ most (ticks_in g ds b) → frames_in g ((n, c) ∷ ds) r ≡ frames_in g ((n, ticks_in g ds b) ∷ ds) r
frames_cut g n c b r ds e = frames_alike g r _ _ (refl, omega (arith, e), alike 1000000000 ds)

pub frames_more : (g : ℕ) (ds : Scope ℕ) (t a b : Tree) (so_far new all : List Timed) → t ≡ chained a b → new ≡ so_far ++ frames_in g ds a → so_far ++ frames_in g ds t ≡ all → new ++ frames_in g ds b ≡ all
frames_more g ds t a b so_far new all e added i =
    ap (λ fs. fs ++ frames_in g ds b) added
    ∙ append_assoc so_far (frames_in g ds a) (frames_in g ds b)
    ∙ ap (λ u. so_far ++ frames_in g ds u) (sym e)
    ∙ i

pub frames_done : (g : ℕ) (ds : Scope ℕ) (t : Tree) (so_far all : List Timed) → t ≡ nothing → so_far ++ frames_in g ds t ≡ all → so_far ≡ all
frames_done g ds t so_far all e i = sym (append-nil so_far) ∙ ap (λ u. so_far ++ frames_in g ds u) (sym e) ∙ i

pub tree_timed : {A : Type 0} (h : ℕ) (b : Box (Frame A) A) → tree_of (timed_frame h b) ≡ timed h (tree_of b.value)
tree_timed h b = search (rules, the_lemmas)

-- the frames of two parts, one behind the other
pub frames_joined : (g : ℕ) (ds : Scope ℕ) (t : Tree) (one two so_far mid new : List Timed) → frames_in g ds t ≡ one ++ two → mid ≡ so_far ++ one → new ≡ mid ++ two → new ≡ so_far ++ frames_in g ds t
frames_joined g ds t one two so_far mid new is e f = f ∙ ap (λ fs. fs ++ two) e ∙ append_assoc so_far one two ∙ ap (λ fs. so_far ++ fs) (sym is)

-- a frame with a period, and those in it
pub frames_timed : (g : ℕ) (ds : Scope ℕ) (t b : Tree) (h n : ℕ) (so_far mid new : List Timed) → t ≡ timed h b → n ≡ most (ticks_in g ds b) → mid ≡ so_far ++ record { hundreds = h; ticks = n } ∷ [] → new ≡ mid ++ frames_in g ds b → new ≡ so_far ++ frames_in g ds t
frames_timed g ds t b h n so_far mid new is count e f =
    let one : Timed = record { hundreds = h; ticks = n } in
    frames_joined g ds t (one ∷ []) (frames_in g ds b) so_far mid new (ap (frames_in g ds) is ∙ ap (λ k. record { hundreds = h; ticks = k } ∷ frames_in g ds b) (sym count)) e f
