-- The packets of a recording by their type, with one more.
use Rattle.std.proofs.Common.{◌≡◌, inl, inr, ℕ, ◌+◌, ◌<◌, ◌==◌, ◌⊎◌, ◌≢◌, Bool, cond, List, [], ◌∷◌, ◌++◌, replicate, get_or, set, sym, ap, ◌∙◌, arith}
use Rattle.std.proofs.lemmas.Bool.{cases_eq, eq-eqb, ne_eqb}
use Rattle.std.proofs.lemmas.List.{get_or-set_same, get_or-set_other, get_or-replicate, length-replicate, length-set}
use Rattle.std.proofs.lemmas.List.Sums.{sum_by_push}
use Rattle.ch11_header.specs.declared.header.Header.{Header}
use Rattle.ch11_reader.specs.Contents.{capped}
use Rattle.bench_stat.specs.declared.kinds.KindFigures.{KindFigures}
use Rattle.bench_stat.specs.Kinds.{AreKinds, bytes_of, kind_of, no_packets, packets_of, with_packet}

abbrev so_many : ℕ → ℕ → KindFigures
so_many packets bytes = record { packets = packets; bytes = bytes }

abbrev figures : ℕ → ℕ → KindFigures
figures packets bytes = so_many (capped packets) (capped bytes)

-- a packet of the type
packets_more : (kind : ℕ) (hs : List Header) (h : Header) → packets_of kind (hs ++ h ∷ []) ≡ packets_of kind hs + cond (h.kind == kind) 1 0
packets_more kind hs h = sum_by_push (λ (x : Header). cond (x.kind == kind) 1 0) hs h

bytes_more : (kind : ℕ) (hs : List Header) (h : Header) → bytes_of kind (hs ++ h ∷ []) ≡ bytes_of kind hs + cond (h.kind == kind) h.packet_length 0
bytes_more kind hs h = sum_by_push (λ (x : Header). cond (x.kind == kind) x.packet_length 0) hs h

figures_more : (kind packets bytes : ℕ) (hs : List Header) (h : Header) → packets_of kind (hs ++ h ∷ []) ≡ packets → bytes_of kind (hs ++ h ∷ []) ≡ bytes → figures packets bytes ≡ kind_of kind (hs ++ h ∷ [])
figures_more kind packets bytes hs h many large = ap (λ (n : ℕ). figures n bytes) (sym many) ∙ ap (figures (packets_of kind (hs ++ h ∷ []))) (sym large)

plus_nought : (x : ℕ) → x + 0 ≡ x
plus_nought x = omega arith

plus : (x y : ℕ) → capped (capped x + y) ≡ capped (x + y)
plus x y = omega arith

with_one : (packets bytes size : ℕ) → with_packet size (figures packets bytes) ≡ figures (packets + 1) (bytes + size)
with_one packets bytes size =
    ap (λ (n : ℕ). so_many n (capped (capped bytes + size))) (plus packets 1) ∙ ap (so_many (capped (packets + 1))) (plus bytes size)

kind_case : (hs : List Header) (h : Header) (kinds : List KindFigures) (kind : ℕ) → h.kind < 256 → kind < 256 → AreKinds hs kinds → (c : (kind ≡ h.kind) ⊎ (kind ≢ h.kind))
    → get_or (set kinds h.kind (with_packet h.packet_length (get_or kinds h.kind no_packets))) kind no_packets ≡ kind_of kind (hs ++ h ∷ [])
kind_case hs h kinds kind byte below are (inl same) =
    let one = eq-eqb h.kind kind (sym same) in
    ap (λ (n : ℕ). get_or (set kinds h.kind (with_packet h.packet_length (get_or kinds h.kind no_packets))) n no_packets) same
    ∙ get_or-set_same kinds h.kind (with_packet h.packet_length (get_or kinds h.kind no_packets)) no_packets (omega (arith, are.many, byte))
    ∙ ap (λ (n : ℕ). with_packet h.packet_length (get_or kinds n no_packets)) (sym same)
    ∙ ap (with_packet h.packet_length) (are.each kind below)
    ∙ with_one (packets_of kind hs) (bytes_of kind hs) h.packet_length
    ∙ figures_more kind (packets_of kind hs + 1) (bytes_of kind hs + h.packet_length) hs h
    (packets_more kind hs h ∙ ap (λ (b : Bool). packets_of kind hs + cond b 1 0) one)
    (bytes_more kind hs h ∙ ap (λ (b : Bool). bytes_of kind hs + cond b h.packet_length 0) one)
kind_case hs h kinds kind byte below are (inr other) =
    let none = ne_eqb h.kind kind (λ e. other (sym e)) in
    get_or-set_other kinds h.kind kind (with_packet h.packet_length (get_or kinds h.kind no_packets)) no_packets other
    ∙ are.each kind below
    ∙ figures_more kind (packets_of kind hs) (bytes_of kind hs) hs h
    (packets_more kind hs h ∙ ap (λ (b : Bool). packets_of kind hs + cond b 1 0) none ∙ plus_nought (packets_of kind hs))
    (bytes_more kind hs h ∙ ap (λ (b : Bool). bytes_of kind hs + cond b h.packet_length 0) none ∙ plus_nought (bytes_of kind hs))

pub kinds_more : (hs : List Header) (h : Header) (kinds : List KindFigures) → h.kind < 256 → AreKinds hs kinds → AreKinds (hs ++ h ∷ []) (set kinds h.kind (with_packet h.packet_length (get_or kinds h.kind no_packets)))
kinds_more hs h kinds byte are = record {
  many = length-set kinds h.kind (with_packet h.packet_length (get_or kinds h.kind no_packets)) ∙ are.many;
  each = λ kind below. kind_case hs h kinds kind byte below are (cases_eq kind h.kind);
}

-- none of no packet
pub no_kinds : AreKinds [] (replicate 256 no_packets)
no_kinds = record {
  many = length-replicate 256 no_packets;
  each = λ kind below. get_or-replicate 256 kind no_packets no_packets below;
}
