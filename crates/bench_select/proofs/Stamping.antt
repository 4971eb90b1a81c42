-- What the time stamps of a recording are, with one more packet.
use Rattle.std.proofs.Common.{◌≡◌, inl, inr, ℕ, ◌<◌, ◌&&◌, ◌||◌, ◌==◌, ◌⊎◌, ◌≢◌, Bool, true, false, cond, List, [], ◌∷◌, ◌++◌, length, get_or, Option, None, Some, refl, sym, ap, ◌∙◌}
use Rattle.std.proofs.lemmas.Bool.{cases_eq, eq-eqb, ne_eqb}
use Rattle.std.proofs.lemmas.List.{get_or-set_same, get_or-set_other}
use Rattle.std.proofs.lemmas.List.Folds.{list_any-append}
use Rattle.ch11_reader.specs.Recording.{Found}
use Rattle.ch11_layout.specs.Stamps.{kind_of}
use Rattle.bench_select.specs.Stamps.{AreOrigins, AreStamps, AreUnknown, IsBegun, IsMarked, begun, first_or, first_ticks, has_unknown, is_unknown, is_unknown_of, marked, origin_in, origin_of}
use Rattle.bench_select.specs.declared.stamps.Stamps.{Stamps}

first_assoc : (a b c : Option ℕ) → first_or a (first_or b c) ≡ first_or (first_or a b) c
first_assoc None b c = refl
first_assoc (Some x) b c = refl

first_none : (a : Option ℕ) → first_or a None ≡ a
first_none None = refl
first_none (Some x) = refl

or_false : (a : Bool) → (a || false) ≡ a
or_false true = refl
or_false false = refl

-- one packet more
origin_more : (channel : ℕ) (ps : List Found) (q : Found) → origin_in channel (ps ++ q ∷ []) ≡ first_or (origin_in channel ps) (origin_of channel q)
origin_more channel [] q = first_none (origin_of channel q)
origin_more channel (p ∷ ps) q =
    ap (first_or (origin_of channel p)) (origin_more channel ps q) ∙ first_assoc (origin_of channel p) (origin_in channel ps) (origin_of channel q)

unknown_more : (channel : ℕ) (ps : List Found) (q : Found) → is_unknown (ps ++ q ∷ []) channel ≡ (is_unknown ps channel || is_unknown_of channel q)
unknown_more channel ps q = list_any-append (is_unknown_of channel) ps (q ∷ []) ∙ ap (λ (b : Bool). is_unknown ps channel || b) (or_false (is_unknown_of channel q))

-- ---- a channel that begins

-- a time of day that isn't one changes nothing
pub not_begun : (channel : ℕ) (origins : List (Option ℕ)) → IsBegun channel None origins origins
not_begun channel origins k = go (channel == k) (get_or origins k None)
  where
    go : (b : Bool) (o : Option ℕ) → o ≡ cond b (first_or o None) o
    go true o = sym (first_none o)
    go false o = refl

begun_case : (channel k : ℕ) (ticks : Option ℕ) (before made : List (Option ℕ)) → channel < length made → ((n : ℕ) → get_or made n None ≡ get_or before n None)
    → (c : (k ≡ channel) ⊎ (k ≢ channel)) → get_or (begun channel ticks made) k None ≡ cond (channel == k) (first_or (get_or before k None) ticks) (get_or before k None)
begun_case channel k ticks before made place same (inl here) =
    ap (λ (n : ℕ). get_or (begun channel ticks made) n None) here
    ∙ get_or-set_same made channel (first_or (get_or made channel None) ticks) None place
    ∙ ap (λ (o : Option ℕ). first_or o ticks) (same channel ∙ ap (λ (n : ℕ). get_or before n None) (sym here))
    ∙ sym (ap (λ (b : Bool). cond b (first_or (get_or before k None) ticks) (get_or before k None)) (eq-eqb channel k (sym here)))
begun_case channel k ticks before made place same (inr other) =
    get_or-set_other made channel k (first_or (get_or made channel None) ticks) None other
    ∙ same k
    ∙ sym (ap (λ (b : Bool). cond b (first_or (get_or before k None) ticks) (get_or before k None)) (ne_eqb channel k (λ e. other (sym e))))

-- the place was made, and then put
pub has_begun : (channel : ℕ) (ticks : Option ℕ) (before made after : List (Option ℕ)) → channel < length made → ((n : ℕ) → get_or made n None ≡ get_or before n None)
    → after ≡ begun channel ticks made → IsBegun channel ticks before after
has_begun channel ticks before made after place same put k = ap (λ (os : List (Option ℕ)). get_or os k None) put ∙ begun_case channel k ticks before made place same (cases_eq k channel)

-- the time of day of a packet's first message
abbrev ticks_in : Found → Option ℕ
ticks_in q = first_ticks (kind_of q.header) q.messages

later : (b : Bool) (o t : Option ℕ) → cond b (first_or o t) o ≡ first_or o (cond b t None)
later true o t = refl
later false o t = sym (first_none o)

pub origins_more : (ps : List Found) (q : Found) (channel : ℕ) (ticks : Option ℕ) (origins after : List (Option ℕ)) → channel ≡ q.header.channel → ticks ≡ first_ticks (kind_of q.header) q.messages
    → AreOrigins ps origins → IsBegun channel ticks origins after → AreOrigins (ps ++ q ∷ []) after
origins_more ps q channel ticks origins after here is are begins k below =
    begins k
    ∙ ap (λ (n : ℕ). cond (n == k) (first_or (get_or origins k None) ticks) (get_or origins k None)) here
    ∙ ap (λ (t : Option ℕ). cond (q.header.channel == k) (first_or (get_or origins k None) t) (get_or origins k None)) is
    ∙ ap (λ (o : Option ℕ). cond (q.header.channel == k) (first_or o (ticks_in q)) o) (are k below)
    ∙ later (q.header.channel == k) (origin_in k ps) (ticks_in q)
    ∙ sym (origin_more k ps q)

-- ---- a channel that is marked

pub not_marked : (channel : ℕ) (marks : List Bool) → IsMarked channel false marks marks
not_marked channel marks k = go (channel == k) (get_or marks k false)
  where
    go : (b m : Bool) → m ≡ cond b (m || false) m
    go true m = sym (or_false m)
    go false m = refl

marked_case : (channel k : ℕ) (unknown : Bool) (before made : List Bool) → channel < length made → ((n : ℕ) → get_or made n false ≡ get_or before n false)
    → (c : (k ≡ channel) ⊎ (k ≢ channel)) → get_or (marked channel unknown made) k false ≡ cond (channel == k) (get_or before k false || unknown) (get_or before k false)
marked_case channel k unknown before made place same (inl here) =
    ap (λ (n : ℕ). get_or (marked channel unknown made) n false) here
    ∙ get_or-set_same made channel (get_or made channel false || unknown) false place
    ∙ ap (λ (b : Bool). b || unknown) (same channel ∙ ap (λ (n : ℕ). get_or before n false) (sym here))
    ∙ sym (ap (λ (b : Bool). cond b (get_or before k false || unknown) (get_or before k false)) (eq-eqb channel k (sym here)))
marked_case channel k unknown before made place same (inr other) =
    get_or-set_other made channel k (get_or made channel false || unknown) false other
    ∙ same k
    ∙ sym (ap (λ (b : Bool). cond b (get_or before k false || unknown) (get_or before k false)) (ne_eqb channel k (λ e. other (sym e))))

pub is_marked : (channel : ℕ) (unknown : Bool) (before made after : List Bool) → channel < length made → ((n : ℕ) → get_or made n false ≡ get_or before n false)
    → after ≡ marked channel unknown made → IsMarked channel unknown before after
is_marked channel unknown before made after place same put k = ap (λ (ms : List Bool). get_or ms k false) put ∙ marked_case channel k unknown before made place same (cases_eq k channel)

-- whether there are messages of a packet of which no time is known
abbrev unknown_in : Found → Bool
unknown_in q = has_unknown (kind_of q.header) q.messages

or_later : (b m u : Bool) → cond b (m || u) m ≡ (m || (b && u))
or_later true m u = refl
or_later false m u = sym (or_false m)

pub unknown_marked : (ps : List Found) (q : Found) (channel : ℕ) (unknown : Bool) (marks after : List Bool) → channel ≡ q.header.channel → unknown ≡ has_unknown (kind_of q.header) q.messages
    → AreUnknown ps marks → IsMarked channel unknown marks after → AreUnknown (ps ++ q ∷ []) after
unknown_marked ps q channel unknown marks after here is are marks_it k below =
    marks_it k
    ∙ ap (λ (n : ℕ). cond (n == k) (get_or marks k false || unknown) (get_or marks k false)) here
    ∙ ap (λ (u : Bool). cond (q.header.channel == k) (get_or marks k false || u) (get_or marks k false)) is
    ∙ ap (λ (m : Bool). cond (q.header.channel == k) (m || unknown_in q) m) (are k below)
    ∙ or_later (q.header.channel == k) (is_unknown ps k) (unknown_in q)
    ∙ sym (unknown_more k ps q)

-- none of no packet
pub nothing_begun : (s : Stamps) → s.origins.items ≡ [] → s.unknown.items ≡ [] → AreStamps [] s
nothing_begun s origins unknown = record {
  origins = λ channel below. ap (λ (os : List (Option ℕ)). get_or os channel None) origins;
  unknown = λ channel below. ap (λ (ms : List Bool). get_or ms channel false) unknown;
}
