-- The setup records in front of a recording.
use Rattle.std.proofs.Common.{◌≡◌, ℕ, suc, ◌+◌, ◌<◌, ◌≤◌, Bool, true, false, not, cond, eqb, ◌&&◌, List, [], ◌∷◌, ◌++◌, take, drop, get_or, length, eq-eqb, Option, refl, sym, ap, subst, ◌∙◌, append_assoc, append-nil, arith}
use Rattle.std.specs.List.{AllByRecursion, position_or_len}
use Rattle.std.proofs.lemmas.Bool.{ne_eqb}
use Rattle.std.proofs.lemmas.List.{append_cancel_left, drop_more}
use Rattle.std.proofs.lemmas.List.Elements.{filter-append}
use Rattle.std.specs.Io.KnownBytes.{Appends}
use Rattle.bench_complete.specs.declared.placed.Placed.{Placed}
use Rattle.bench_complete.specs.Pieces.{Piece, bytes_of, piece_at, goes_over, ends_leading, kept_entries, leading, behind_leading}
use Rattle.bench_complete.specs.Merging.{of_channel, IsMergeOrder}
use Rattle.bench_complete.specs.Lanes.{piece_in}
use Rattle.bench_complete.proofs.Linked.{no_entry}
use Rattle.bench_complete.proofs.Running.{appends_both, appends_nothing}

-- ---- by where they stand

abbrev pub front_size : List Placed → ℕ
front_size es = position_or_len (λ e. ends_leading e.header) es

one_more : (n : ℕ) → 1 + n ≡ suc n
one_more n = omega arith

module _ (file : List ℕ) (e : Placed) (es : List Placed) where
  abbrev own : Piece
  own = piece_at file e.offset e.header

  kept_more : (l : List Placed) → goes_over e.header ≡ true → kept_entries file (e ∷ l) ≡ own ∷ kept_entries file l
  kept_more l over = ap (λ (b : Bool). cond b (own ∷ kept_entries file l) (kept_entries file l)) over

  kept_out : (l : List Placed) → goes_over e.header ≡ false → kept_entries file (e ∷ l) ≡ kept_entries file l
  kept_out l out = ap (λ (b : Bool). cond b (own ∷ kept_entries file l) (kept_entries file l)) out

  size_by : (over setup : Bool) → goes_over e.header ≡ over → eqb e.header.kind 1 ≡ setup → front_size (e ∷ es) ≡ cond (not (over && not setup)) (1 + front_size es) 0
  size_by over setup o s =
      ap (λ (b : Bool). cond (not (b && not (eqb e.header.kind 1))) (1 + front_size es) 0) o ∙ ap (λ (b : Bool). cond (not (over && not b)) (1 + front_size es) 0) s

  abbrev front : ℕ → List Piece
  front n = kept_entries file (take n (e ∷ es))

  abbrev rest : ℕ → List Piece
  rest n = kept_entries file (drop n (e ∷ es))

  front_by : (over setup : Bool) → goes_over e.header ≡ over → eqb e.header.kind 1 ≡ setup → leading (kept_entries file es) ≡ kept_entries file (take (front_size es) es)
      → leading (kept_entries file (e ∷ es)) ≡ front (front_size (e ∷ es))
  front_by true true o s is =
      ap leading (kept_more es o) ∙ ap (λ (b : Bool). cond b (own ∷ leading (kept_entries file es)) []) s ∙ ap (λ (l : List Piece). own ∷ l) is
      ∙ sym (kept_more (take (front_size es) es) o) ∙ sym (ap front (size_by true true o s ∙ one_more (front_size es)))
  front_by true false o s is =
      ap leading (kept_more es o) ∙ ap (λ (b : Bool). cond b (own ∷ leading (kept_entries file es)) []) s ∙ sym (ap front (size_by true false o s))
  front_by false setup o s is =
      ap leading (kept_out es o) ∙ is ∙ sym (kept_out (take (front_size es) es) o) ∙ sym (ap front (size_by false setup o s ∙ one_more (front_size es)))

  behind_by : (over setup : Bool) → goes_over e.header ≡ over → eqb e.header.kind 1 ≡ setup → behind_leading (kept_entries file es) ≡ kept_entries file (drop (front_size es) es)
      → behind_leading (kept_entries file (e ∷ es)) ≡ rest (front_size (e ∷ es))
  behind_by true true o s is =
      ap behind_leading (kept_more es o) ∙ ap (λ (b : Bool). cond b (behind_leading (kept_entries file es)) (own ∷ kept_entries file es)) s ∙ is
      ∙ sym (ap rest (size_by true true o s ∙ one_more (front_size es)))
  behind_by true false o s is =
      ap behind_leading (kept_more es o) ∙ ap (λ (b : Bool). cond b (behind_leading (kept_entries file es)) (own ∷ kept_entries file es)) s
      ∙ sym (kept_more es o) ∙ sym (ap rest (size_by true false o s))
  behind_by false setup o s is =
      ap behind_leading (kept_out es o) ∙ is ∙ sym (ap rest (size_by false setup o s ∙ one_more (front_size es)))

pub front_entries : (file : List ℕ) (es : List Placed) → leading (kept_entries file es) ≡ kept_entries file (take (front_size es) es)
front_entries file [] = refl
front_entries file (e ∷ es) = front_by file e es (goes_over e.header) (eqb e.header.kind 1) refl refl (front_entries file es)

pub behind_entries : (file : List ℕ) (es : List Placed) → behind_leading (kept_entries file es) ≡ kept_entries file (drop (front_size es) es)
behind_entries file [] = refl
behind_entries file (e ∷ es) = behind_by file e es (goes_over e.header) (eqb e.header.kind 1) refl refl (behind_entries file es)

-- the same where they are parted where they no longer lead
pub front_placed : (file : List ℕ) (es front : List Placed) (n : ℕ) → n ≡ front_size es → front ≡ take n es → leading (kept_entries file es) ≡ kept_entries file front
front_placed file es front n size is = front_entries file es ∙ ap (λ (k : ℕ). kept_entries file (take k es)) (sym size) ∙ ap (kept_entries file) (sym is)

pub rest_placed : (file : List ℕ) (es rest : List Placed) (n : ℕ) → n ≡ front_size es → rest ≡ drop n es → behind_leading (kept_entries file es) ≡ kept_entries file rest
rest_placed file es rest n size is = behind_entries file es ∙ ap (λ (k : ℕ). kept_entries file (drop k es)) (sym size) ∙ ap (kept_entries file) (sym is)

-- a writer got those of entries that no longer are ahead
pub record HasWritten (file : List ℕ) (es ahead : List Placed) (got gets : Option (List ℕ)) : Type 0 where
  pub done : List ℕ
  pub taken : Appends got gets done
  pub whole : done ++ bytes_of (kept_entries file ahead) ≡ bytes_of (kept_entries file es)

pub none_written : (file : List ℕ) (es : List Placed) (got : Option (List ℕ)) → HasWritten file es es got got
none_written file es got = record { done = []; taken = appends_nothing got; whole = refl }

pub one_written : (file : List ℕ) (es ahead : List Placed) (e : Placed) (got gets now : Option (List ℕ)) → goes_over e.header ≡ true → HasWritten file es (e ∷ ahead) got gets
    → Appends gets now (piece_at file e.offset e.header).bytes → HasWritten file es ahead got now
one_written file es ahead e got gets now over w new =
    let bytes : List ℕ = (piece_at file e.offset e.header).bytes in
    let front : bytes_of (kept_entries file (e ∷ ahead)) ≡ bytes ++ bytes_of (kept_entries file ahead) = ap bytes_of (kept_more file e [] ahead over) in
    record {
      done = w.done ++ bytes;
      taken = appends_both got gets now w.done bytes w.taken new;
      whole = append_assoc w.done bytes (bytes_of (kept_entries file ahead)) ∙ ap (λ (l : List ℕ). w.done ++ l) (sym front) ∙ w.whole;
    }

pub one_left_out : (file : List ℕ) (es ahead : List Placed) (e : Placed) (got gets : Option (List ℕ)) → goes_over e.header ≡ false → HasWritten file es (e ∷ ahead) got gets → HasWritten file es ahead got gets
one_left_out file es ahead e got gets out w =
    let front : bytes_of (kept_entries file (e ∷ ahead)) ≡ bytes_of (kept_entries file ahead) = ap bytes_of (kept_out file e [] ahead out) in
    record { done = w.done; taken = w.taken; whole = ap (λ (l : List ℕ). w.done ++ l) (sym front) ∙ w.whole }

pub all_written : (file : List ℕ) (es : List Placed) (got gets : Option (List ℕ)) → HasWritten file es [] got gets → Appends got gets (bytes_of (kept_entries file es))
all_written file es got gets w = subst (Appends got gets) (sym (append-nil w.done) ∙ w.whole) w.taken

-- the packet at a place, which is written or left out
pub next_written : (file : List ℕ) (es : List Placed) (i : ℕ) (got gets now : Option (List ℕ)) → i < length es → ((get_or es i no_entry).header.kind ≡ 3 → ⊥) → HasWritten file es (drop i es) got gets
    → Appends gets now (piece_in file (get_or es i no_entry)).bytes → HasWritten file es (drop (i + 1) es) got now
next_written file es i got gets now lt other w new =
    let e : Placed = get_or es i no_entry in
    one_written file es (drop (i + 1) es) e got gets now (ap not (ne_eqb e.header.kind 3 other)) (subst (λ (l : List Placed). HasWritten file es l got gets) (drop_more es i no_entry lt) w) new

pub next_left : (file : List ℕ) (es : List Placed) (i : ℕ) (got gets : Option (List ℕ)) → i < length es → (get_or es i no_entry).header.kind ≡ 3 → HasWritten file es (drop i es) got gets
    → HasWritten file es (drop (i + 1) es) got gets
next_left file es i got gets lt index w =
    let e : Placed = get_or es i no_entry in
    one_left_out file es (drop (i + 1) es) e got gets (ap not (eq-eqb e.header.kind 3 index)) (subst (λ (l : List Placed). HasWritten file es l got gets) (drop_more es i no_entry lt) w)

bounded : (ends : Bool) (n m : ℕ) → n ≤ m → cond (not ends) (1 + n) 0 ≤ suc m
bounded true n m le = omega arith
bounded false n m le = omega (arith, le)

pub front_within : (es : List Placed) → front_size es ≤ length es
front_within [] = omega arith
front_within (e ∷ es) = bounded (ends_leading e.header) (front_size es) (length es) (front_within es)

-- ---- packets

abbrev pub AreSetups : List Piece → Type 0
AreSetups ps = AllByRecursion (λ (p : Piece). eqb p.header.kind 1 ≡ true) ps

setups_by : (p : Piece) (ps : List Piece) (setup : Bool) → eqb p.header.kind 1 ≡ setup → AreSetups (leading ps) → AreSetups (leading (p ∷ ps))
setups_by p ps true s rest = rw s (s, rest)
setups_by p ps false s rest = rw s tt

pub leading_setups : (ps : List Piece) → AreSetups (leading ps)
leading_setups [] = tt
leading_setups (p ∷ ps) = setups_by p ps (eqb p.header.kind 1) refl (leading_setups ps)

all_by : (p : Piece) (ps : List Piece) (setup : Bool) → eqb p.header.kind 1 ≡ setup → leading ps ++ behind_leading ps ≡ ps → leading (p ∷ ps) ++ behind_leading (p ∷ ps) ≡ p ∷ ps
all_by p ps true s rest = rw s (ap (λ (l : List Piece). p ∷ l) rest)
all_by p ps false s rest = rw s refl

-- what leads and what stands behind it are all packets
pub leading_all : (ps : List Piece) → leading ps ++ behind_leading ps ≡ ps
leading_all [] = refl
leading_all (p ∷ ps) = all_by p ps (eqb p.header.kind 1) refl (leading_all ps)

pub behind_setups : (front ps : List Piece) → AreSetups front → behind_leading (front ++ ps) ≡ behind_leading ps
behind_setups [] ps all = refl
behind_setups (p ∷ front) ps all = rw (all.0) (behind_setups front ps all.1)

order_by : (p : Piece) (ps : List Piece) (setup : Bool) → eqb p.header.kind 1 ≡ setup → IsMergeOrder (p ∷ ps) → IsMergeOrder (behind_leading ps) → IsMergeOrder (behind_leading (p ∷ ps))
order_by p ps true s o rest = rw s rest
order_by p ps false s o rest = rw s o

pub order_behind : (ps : List Piece) → IsMergeOrder ps → IsMergeOrder (behind_leading ps)
order_behind [] o = tt
order_behind (p ∷ ps) o = order_by p ps (eqb p.header.kind 1) refl o (order_behind ps o.1)

-- ---- of one channel

pub channel_all : (channel : ℕ) (ps : List Piece) → of_channel channel (leading ps) ++ of_channel channel (behind_leading ps) ≡ of_channel channel ps
channel_all channel ps = sym (filter-append _ (leading ps) (behind_leading ps)) ∙ ap (of_channel channel) (leading_all ps)

no_more : (a b : List Piece) → a ++ b ≡ [] → b ≡ []
no_more [] b is = is
no_more (p ∷ a) b is = absurd (cc)

pub none_behind : (channel : ℕ) (ps : List Piece) → of_channel channel ps ≡ [] → of_channel channel (behind_leading ps) ≡ []
none_behind channel ps none = no_more (of_channel channel (leading ps)) (of_channel channel (behind_leading ps)) (channel_all channel ps ∙ none)

pub same_behind : (channel : ℕ) (ps qs : List Piece) → leading ps ≡ leading qs → of_channel channel ps ≡ of_channel channel qs → of_channel channel (behind_leading ps) ≡ of_channel channel (behind_leading qs)
same_behind channel ps qs front same =
    append_cancel_left (of_channel channel (leading ps)) (of_channel channel (behind_leading ps)) (of_channel channel (behind_leading qs))
    (channel_all channel ps ∙ same ∙ sym (channel_all channel qs) ∙ ap (λ (l : List Piece). of_channel channel l ++ of_channel channel (behind_leading qs)) (sym front))
