-- Words one behind the other, and the messages whose words they are.
use Rattle.std.proofs.Common.{◌≡◌, ℕ, zero, suc, ◌+◌, ◌-◌, ◌≤◌, ◌<◌, List, [], ◌∷◌, ◌++◌, length, map, take, drop, slice_range, slice_get, get_or, Option, Some, option_map, refl, sym, ap, ap₂, ◌∙◌, arith}
use Rattle.std.proofs.lemmas.List.{drop-append-le, drop_at, length-append, length-drop, map-append, take-append-le, take_all}
use Rattle.std.proofs.lemmas.Option.{slice_get-map, slice_get_read}
use Rattle.ch11_layout.specs.Stamps.{Recorded, recorded}
use Rattle.ch11_layout.specs.declared.stamps.StampKind.{StampKind}
use Rattle.bench_reproduce.specs.Hearing.{AreInside, message_in}
use Rattle.bench_reproduce.specs.declared.hearing.MessageHead.{MessageHead}

-- ---- more words

pub inside_on : (words more : List ℕ) (hs : List MessageHead) → AreInside words hs → AreInside (words ++ more) hs
inside_on words more [] inside = tt
inside_on words more (h ∷ hs) inside = (omega (arith, length-append words more, inside.0), inside_on words more hs inside.1)

-- a part stays as it is
part_on : (words more : List ℕ) (start size : ℕ) → start + size ≤ length words → slice_range (words ++ more) start (start + size) ≡ slice_range words start (start + size)
part_on words more start size within =
    let front : start ≤ length words = omega (arith, within) in
    let left : start + size - start ≤ length (drop start words) = omega (arith, within, length-drop start words) in
    ap (take (start + size - start)) (drop-append-le start words more front) ∙ take-append-le (start + size - start) (drop start words) more left

same_message : (words more : List ℕ) (h : MessageHead) → h.start + h.size ≤ length words → message_in (words ++ more) h ≡ message_in words h
same_message words more h within =
    ap (λ (bytes : List ℕ). recorded h.kind (record { stamp = h.stamp; block = h.block; gaps = h.gaps; bytes = bytes })) (part_on words more h.start h.size within)

pub same_messages : (words more : List ℕ) (hs : List MessageHead) → AreInside words hs → map (message_in (words ++ more)) hs ≡ map (message_in words) hs
same_messages words more [] inside = refl
same_messages words more (h ∷ hs) inside =
    ap₂ (λ (m : Recorded) (ms : List Recorded). m ∷ ms) (same_message words more h inside.0) (same_messages words more hs inside.1)

-- ---- one message more

pub inside_one : (words : List ℕ) (hs : List MessageHead) (h : MessageHead) → AreInside words hs → h.start + h.size ≤ length words → AreInside words (hs ++ h ∷ [])
inside_one words [] h inside within = (within, tt)
inside_one words (o ∷ hs) h inside within = (inside.0, inside_one words hs h inside.1 within)

-- the part at the end
part_at : (words more : List ℕ) → slice_range (words ++ more) (length words) (length words + length more) ≡ more
part_at words more =
    let count : length more ≤ length words + length more - length words = omega arith in
    ap (take (length words + length more - length words)) (drop_at words more (length words) refl) ∙ take_all (length words + length more - length words) more count

module _ (words more : List ℕ) (hs : List MessageHead) (now : List Recorded) (stamp number block gaps start size : ℕ) (kind : StampKind) (h : MessageHead)
    (is : h ≡ record { stamp = stamp; number = number; start = start; size = size; block = block; gaps = gaps; kind = kind })
  where
    pub ends_inside : start ≡ length words → size ≡ length more → h.start + h.size ≤ length (words ++ more)
    ends_inside begins counts = omega (arith, begins, counts, length-append words more, ap (λ (o : MessageHead). o.start) is, ap (λ (o : MessageHead). o.size) is)

    message_behind : start ≡ length words → size ≡ length more
        → message_in (words ++ more) h ≡ recorded kind (record { stamp = stamp; block = block; gaps = gaps; bytes = more })
    message_behind begins counts =
        ap (message_in (words ++ more)) is
        ∙ ap (λ (bytes : List ℕ). recorded kind (record { stamp = stamp; block = block; gaps = gaps; bytes = bytes }))
        (ap₂ (λ (a b : ℕ). slice_range (words ++ more) a (a + b)) begins counts ∙ part_at words more)

    pub one_behind : AreInside words hs → map (message_in words) hs ≡ now → start ≡ length words → size ≡ length more
        → map (message_in (words ++ more)) (hs ++ h ∷ []) ≡ now ++ recorded kind (record { stamp = stamp; block = block; gaps = gaps; bytes = more }) ∷ []
    one_behind inside so_far begins counts =
        map-append (message_in (words ++ more)) hs (h ∷ [])
        ∙ ap₂ (λ (ms : List Recorded) (m : Recorded). ms ++ m ∷ []) (same_messages words more hs inside ∙ so_far) (message_behind begins counts)

-- ---- the message of a place

pub inside_at : (words : List ℕ) (hs : List MessageHead) (n : ℕ) (h : MessageHead) → AreInside words hs → n < length hs → h ≡ get_or hs n h → h.start + h.size ≤ length words
inside_at words [] n h inside less is = absurd (omega (arith, less))
inside_at words (o ∷ hs) zero h inside less is = rw is inside.0
inside_at words (o ∷ hs) (suc n) h inside less is = inside_at words hs n h inside.1 (omega (arith, less)) is

pub message_at : (words part : List ℕ) (hs : List MessageHead) (now : List Recorded) (n : ℕ) (h : MessageHead) → map (message_in words) hs ≡ now → n < length hs → h ≡ get_or hs n h
    → part ≡ slice_range words h.start (h.start + h.size) → slice_get now n ≡ Some (recorded h.kind (record { stamp = h.stamp; block = h.block; gaps = h.gaps; bytes = part }))
message_at words part hs now n h so_far less is same =
    ap (λ (ms : List Recorded). slice_get ms n) (sym so_far)
    ∙ slice_get-map (message_in words) hs n
    ∙ ap (λ (o : Option MessageHead). option_map (message_in words) o) (slice_get_read hs (length hs) n h refl less is)
    ∙ ap (λ (bytes : List ℕ). Some (recorded h.kind (record { stamp = h.stamp; block = h.block; gaps = h.gaps; bytes = bytes }))) (sym same)
