-- Packets that are merged, one head after the other.
use Rattle.std.proofs.Common.{◌≡◌, ◌⊎◌, inl, inr, ℕ, cond, eqb, List, [], ◌∷◌, ◌++◌, refl, sym, ap, subst, ◌∙◌, append_assoc, append-nil}
use Rattle.std.proofs.lemmas.Bool.{eq-eqb, ne_eqb, cases_eq}
use Rattle.bench_complete.specs.Pieces.{Piece, bytes_of}
use Rattle.bench_complete.specs.Merging.{of_channel, IsNotBehind, IsMergeOrder, IsMerge}

-- a merge of what each channel has left
pub record IsMergeOf (rest : ℕ → List Piece) (ms : List Piece) : Type 0 where
  pub channels : (channel : ℕ) → of_channel channel ms ≡ rest channel
  pub order : IsMergeOrder ms

-- the same, but for one channel
abbrev pub put : (ℕ → List Piece) → ℕ → List Piece → ℕ → List Piece
put rest channel ps k = cond (eqb k channel) ps (rest k)

pub put-same : (rest : ℕ → List Piece) (channel : ℕ) (ps : List Piece) → put rest channel ps channel ≡ ps
put-same rest channel ps = rw (eq-eqb channel channel refl) refl

pub put-other : (rest : ℕ → List Piece) (channel k : ℕ) (ps : List Piece) → (k ≡ channel → ⊥) → put rest channel ps k ≡ rest k
put-other rest channel k ps ne = rw (ne_eqb k channel ne) refl

pub of_channel-same : (channel : ℕ) (p : Piece) (ps : List Piece) → p.header.channel ≡ channel → of_channel channel (p ∷ ps) ≡ p ∷ of_channel channel ps
of_channel-same channel p ps e = rw (eq-eqb p.header.channel channel e) refl

pub of_channel-other : (channel : ℕ) (p : Piece) (ps : List Piece) → (p.header.channel ≡ channel → ⊥) → of_channel channel (p ∷ ps) ≡ of_channel channel ps
of_channel-other channel p ps ne = rw (ne_eqb p.header.channel channel ne) refl

channels_on : (rest : ℕ → List Piece) (channel : ℕ) (p : Piece) (ps ms : List Piece) → rest channel ≡ p ∷ ps → p.header.channel ≡ channel
    → IsMergeOf (put rest channel ps) ms → (k : ℕ) → (k ≡ channel) ⊎ (k ≡ channel → ⊥) → of_channel k (p ∷ ms) ≡ rest k
channels_on rest channel p ps ms is on m k (inl same) =
    of_channel-same k p ms (on ∙ sym same) ∙ ap (λ (l : List Piece). p ∷ l) (m.channels k ∙ ap (put rest channel ps) same ∙ put-same rest channel ps) ∙ sym is ∙ ap rest (sym same)
channels_on rest channel p ps ms is on m k (inr other) =
    of_channel-other k p ms (λ e. other (sym e ∙ on)) ∙ m.channels k ∙ put-other rest channel k ps other

-- a head that does not stand behind another, and then a merge of what is left
pub goes_on : (rest : ℕ → List Piece) (channel : ℕ) (p : Piece) (ps ms : List Piece) → rest channel ≡ p ∷ ps → p.header.channel ≡ channel
    → ((q : Piece) (others : List Piece) → rest q.header.channel ≡ q ∷ others → IsNotBehind p.header q.header)
    → IsMergeOf (put rest channel ps) ms → IsMergeOf rest (p ∷ ms)
goes_on rest channel p ps ms is on first m = record {
  channels = λ k. channels_on rest channel p ps ms is on m k (cases_eq k channel);
  order = (λ q head. first q head.0 (sym (channels_on rest channel p ps ms is on m q.header.channel (cases_eq q.header.channel channel)) ∙ head.1), m.order);
}

-- packets that were taken: with any merge of what is left they are a merge of all
pub record IsOn (parts : List Piece) (rest : ℕ → List Piece) (done : List Piece) : Type 0 where
  pub on : (ms : List Piece) → IsMergeOf rest ms → IsMergeOf (λ k. of_channel k parts) (done ++ ms)

pub nothing_done : (parts : List Piece) → IsOn parts (λ k. of_channel k parts) []
nothing_done parts = record { on = λ ms m. m }

pub one_more : (parts : List Piece) (rest : ℕ → List Piece) (done : List Piece) (channel : ℕ) (p : Piece) (ps : List Piece) → rest channel ≡ p ∷ ps → p.header.channel ≡ channel
    → ((q : Piece) (others : List Piece) → rest q.header.channel ≡ q ∷ others → IsNotBehind p.header q.header)
    → IsOn parts rest done → IsOn parts (put rest channel ps) (done ++ p ∷ [])
one_more parts rest done channel p ps is on first o = record {
  on = λ ms m. subst (IsMergeOf (λ k. of_channel k parts)) (sym (append_assoc done (p ∷ []) ms)) (o.on (p ∷ ms) (goes_on rest channel p ps ms is on first m));
}

pub all_done : (parts : List Piece) (rest : ℕ → List Piece) (done : List Piece) → ((k : ℕ) → rest k ≡ []) → IsOn parts rest done → IsMerge parts done
all_done parts rest done none o =
    let m : IsMergeOf (λ k. of_channel k parts) done = subst (IsMergeOf (λ k. of_channel k parts)) (append-nil done) (o.on [] (record { channels = λ k. sym (none k); order = tt })) in
    record { channels = m.channels; order = m.order }

pub bytes_of-append : (ps qs : List Piece) → bytes_of (ps ++ qs) ≡ bytes_of ps ++ bytes_of qs
bytes_of-append [] qs = refl
bytes_of-append (p ∷ ps) qs = ap (λ (l : List ℕ). p.bytes ++ l) (bytes_of-append ps qs) ∙ sym (append_assoc p.bytes (bytes_of ps) (bytes_of qs))

pub bytes_of-push : (ps : List Piece) (p : Piece) → bytes_of (ps ++ p ∷ []) ≡ bytes_of ps ++ p.bytes
bytes_of-push ps p = bytes_of-append ps (p ∷ []) ∙ ap (λ (l : List ℕ). bytes_of ps ++ l) (append-nil p.bytes)
