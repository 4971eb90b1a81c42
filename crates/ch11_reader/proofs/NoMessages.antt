-- Recordings with no packet of MIL-STD-1553 messages, as their packets are read one after the other.
use Rattle.std.proofs.Common.{◌≡◌, ℕ, ◌-◌, true, false, List, [], ◌∷◌, length, Result, Ok, Err, sym, ◌∙◌, subst}
use Rattle.std.specs.List.{AllByRecursion}
use Rattle.ch11_reader.specs.declared.error.Refusal.{Refusal}
use Rattle.ch11_reader.specs.Recording.{Found, HoldsNoMessages, holds_messages, packets_from, packets_in}
use Rattle.ch11_reader.proofs.Loop.{Going, in_order, behind, ends}

-- none of the packets is of messages
abbrev pub AreOthers : List Found → Type 0
AreOthers ps = AllByRecursion (λ (p : Found). holds_messages p.header ≡ false) ps

others_in_order : (earlier ps : List Found) → AreOthers earlier → AreOthers ps → AreOthers (in_order earlier ps)
others_in_order [] ps before after = after
others_in_order (p ∷ earlier) ps before after = others_in_order earlier (p ∷ ps) before.1 (before.0, after)

others_apart : (earlier ps : List Found) → AreOthers (in_order earlier ps) → AreOthers earlier × AreOthers ps
others_apart [] ps all = (tt, all)
others_apart (p ∷ earlier) ps all = let parts = others_apart earlier (p ∷ ps) all in ((parts.1.0, parts.0), parts.1.1)

-- all was read
pub all_others : (file rest : List ℕ) (earlier : List Found) → length rest ≡ 0 → Going file rest earlier → AreOthers earlier → HoldsNoMessages file
all_others file rest earlier none g others = (in_order earlier [], ends file rest earlier none g, others_in_order earlier [] others tt)

-- a packet of messages was read
pub one_of_messages : (file rest : List ℕ) (earlier : List Found) (p : Found) → holds_messages p.header ≡ true → Going file rest (p ∷ earlier) → ¬ HoldsNoMessages file
one_of_messages file rest earlier p holds g is = go (packets_from g.most (length file - length rest) rest) g.so_far
  where
    go : (read : Result (List Found) Refusal) → behind (p ∷ earlier) read ≡ packets_in file → ⊥
    go (Err e) so_far = absurd (let wrong : Err e ≡ Ok is.0 = so_far ∙ is.1 in cc)
    go (Ok ps) so_far =
        let both : Ok (in_order (p ∷ earlier) ps) ≡ Ok is.0 = so_far ∙ is.1 in
        let same : in_order (p ∷ earlier) ps ≡ is.0 = cc in
        let parts = others_apart (p ∷ earlier) ps (subst AreOthers (sym same) is.2) in
        absurd (let wrong : true ≡ false = sym holds ∙ parts.0.0 in cc)

-- a packet cannot be read
pub unreadable : (file : List ℕ) (e : Refusal) → packets_in file ≡ Err e → ¬ HoldsNoMessages file
unreadable file e read is = absurd (let both : Ok is.0 ≡ Err e = sym is.1 ∙ read in cc)
