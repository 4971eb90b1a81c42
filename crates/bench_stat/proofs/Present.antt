-- The channels of a recording.
use Rattle.std.proofs.Common.{◌≡◌, ℕ, ◌+◌, List, [], ◌∷◌, ◌++◌, Bool, true, false, cond, refl, sym, ap, ◌∙◌, arith}
use Rattle.std.specs.List.{filter, range_with_len}
use Rattle.std.proofs.lemmas.List.{append-nil, map-id}
use Rattle.std.proofs.lemmas.List.Folds.{list_any-append}
use Rattle.std.proofs.lemmas.Bool.{eq-eqb, ne_eqb}
use Rattle.std.specs.Prelude.{◌||◌, ◌&&◌, ◌==◌}
use Rattle.std.proofs.lemmas.List.FromFn.{map-range_with_len_more}
use Rattle.std.proofs.lemmas.List.Elements.{filter-append}
use Rattle.ch11_header.specs.declared.header.Header.{Header}
use Rattle.ch11_reader.specs.Recording.{holds_messages}
use Rattle.bench_stat.specs.Figures.{has_channel, is_listed, channels_below}
use Rattle.bench_select.specs.declared.selection.Selection.{Selection}

numbers_more : (n : ℕ) → range_with_len 0 (n + 1) ≡ range_with_len 0 n ++ n ∷ []
numbers_more n = sym (map-id (range_with_len 0 (n + 1))) ∙ map-range_with_len_more (λ (x : ℕ). x) 0 n n (omega arith) ∙ ap (λ (xs : List ℕ). xs ++ n ∷ []) (map-id (range_with_len 0 n))

channels_more : (s : Selection) (n : ℕ) (hs : List Header) → channels_below s (n + 1) hs ≡ channels_below s n hs ++ filter (is_listed s hs) (n ∷ [])
unfolding channels_below
channels_more s n hs = ap (filter (is_listed s hs)) (numbers_more n) ∙ filter-append (is_listed s hs) (range_with_len 0 n) (n ∷ [])

pub no_channels : (s : Selection) (hs : List Header) → channels_below s 0 hs ≡ []
unfolding channels_below
no_channels s hs = refl

pub channel_absent : (s : Selection) (n : ℕ) (hs : List Header) → is_listed s hs n ≡ false → channels_below s (n + 1) hs ≡ channels_below s n hs
channel_absent s n hs absent = channels_more s n hs ∙ ap (λ (b : Bool). channels_below s n hs ++ cond b (n ∷ []) []) absent ∙ append-nil (channels_below s n hs)

pub channel_present : (s : Selection) (n : ℕ) (hs : List Header) → is_listed s hs n ≡ true → channels_below s (n + 1) hs ≡ channels_below s n hs ++ n ∷ []
channel_present s n hs present = channels_more s n hs ∙ ap (λ (b : Bool). channels_below s n hs ++ cond b (n ∷ []) []) present

or_false : (b : Bool) → (b || false) ≡ b
or_false true = refl
or_false false = refl

or_true : (b : Bool) → (b || true) ≡ true
or_true true = refl
or_true false = refl

or_neither : (a b : Bool) → (a || (b && false)) ≡ a
or_neither true true = refl
or_neither true false = refl
or_neither false true = refl
or_neither false false = refl

pub has_one_more : (c : ℕ) (hs : List Header) (h : Header) → has_channel c (hs ++ h ∷ []) ≡ (has_channel c hs || (holds_messages h && (h.channel == c)))
has_one_more c hs h =
    list_any-append (λ (x : Header). holds_messages x && (x.channel == c)) hs (h ∷ []) ∙ ap (λ (b : Bool). has_channel c hs || b) (or_false (holds_messages h && (h.channel == c)))

pub at_channel : (c : ℕ) (hs : List Header) (h : Header) → h.kind ≡ 25 → h.channel ≡ c → has_channel c (hs ++ h ∷ []) ≡ true
at_channel c hs h kind here = has_one_more c hs h ∙ rw (eq-eqb h.kind 25 kind, eq-eqb h.channel c here) (or_true (has_channel c hs))

pub of_other_channel : (c : ℕ) (hs : List Header) (h : Header) → (h.channel ≡ c → ⊥) → has_channel c (hs ++ h ∷ []) ≡ has_channel c hs
of_other_channel c hs h other = has_one_more c hs h ∙ rw (ne_eqb h.channel c other) (or_neither (has_channel c hs) (holds_messages h))

pub of_other_kind : (c : ℕ) (hs : List Header) (h : Header) → (h.kind ≡ 25 → ⊥) → has_channel c (hs ++ h ∷ []) ≡ has_channel c hs
of_other_kind c hs h other = has_one_more c hs h ∙ rw (ne_eqb h.kind 25 other) (or_false (has_channel c hs))
