-- Reading the chains of a certificate, and its last line, is exact.
use Rattle.std.proofs.Common.{◌≡◌, ℕ, zero, suc, ◌≤◌, ◌<◌, Bool, true, false, List, [], ◌∷◌, ◌++◌, length, refl, sym, ap, ◌∙◌}
use Rattle.std.proofs.Common.{append_assoc, arith}
use Rattle.std.specs.Prelude.{codes}
use Rattle.std.specs.List.{flat_map, AllByRecursion}
use Rattle.std.proofs.lemmas.List.{append-nil}
use Rattle.tl_base.specs.declared.chain.Entry.{Entry}
use Rattle.tl_base.specs.declared.chain.Chain.{Chain}
use Rattle.tl_cert.specs.declared.limits.TheConstants.{MAX_TABLE}
use Rattle.tl_cert.specs.Pieces.{TextPiece, character, number, field, word}
use Rattle.tl_cert.specs.Text.{space, entry_pieces, chain_pieces}
use Rattle.tl_cert.specs.inner.CertReading.{entry_at, chain_at, chains_turn, chains_reading, chains_at}
use Rattle.tl_cert.specs.inner.reading.Readings.{got, word_at}
use Rattle.tl_cert.specs.inner.reading.Lists.{Listing, listing}
use Rattle.tl_cert.proofs.reading.Exact.{Exact}
use Rattle.tl_cert.proofs.reading.Words.{exact_word}
use Rattle.tl_cert.proofs.reading.Same.{exact_same}
use Rattle.tl_cert.proofs.reading.ListExact.{ListForm, IsListed, list_pieces, Turns, IsExactList}
use Rattle.tl_cert.proofs.reading.Unlimited.{IsUnlimited, exact_all}
use Rattle.tl_cert.proofs.text.Fields.{exact_after, exact_field, exact_part_then, exact_only}
use Rattle.tl_cert.proofs.text.Items.{items_text}
use Rattle.tl_cert.proofs.text.Entries.{shorter_by, entries_read, exact_entries}

abbrev IsChain : Chain → Type 0
IsChain chain = 1 ≤ length chain.entries

abbrev entries_of : Chain → Listing Entry (Unit {0})
entries_of chain = listing chain.entries tt

abbrev after_word : Chain → List TextPiece
after_word chain = field 0 MAX_TABLE chain.table space ++ entries_read (entries_of chain)

abbrev AnyEntry : Entry → Type 0
AnyEntry entry = Unit {0}

chain_text : (entries : List Entry) (table : ℕ) → 1 ≤ length entries
    → number 0 MAX_TABLE table ∷ (flat_map (λ entry. character space ∷ entry_pieces entry) entries ++ word (codes "\n"))
    ≡ field 0 MAX_TABLE table space ++ entries_read (listing entries tt)
chain_text [] table some = absurd (omega arith)
chain_text (e ∷ entries) table some =
    ap (λ (ps : List TextPiece). number 0 MAX_TABLE table ∷ ps)
    (items_text AnyEntry entry_pieces (λ k more. entry_at true) e entries tt []
    ∙ ap (λ (ps : List TextPiece). character space ∷ ps)
    (append-nil (entries_read (listing (e ∷ entries) tt))))

exact_chain : Exact chain_at IsChain chain_pieces
unfolding chain_at
exact_chain =
    exact_after (codes "chain ") after_word chain_pieces
    (exact_part_then (λ (chain : Chain). chain.table) IsChain after_word (λ table chain. entries_read (entries_of chain))
    (exact_field 0 MAX_TABLE space refl)
    (λ table any. exact_part_then entries_of (λ chain. IsChain chain × (chain.table ≡ table))
    (λ chain. entries_read (entries_of chain))
    (λ x chain. []) exact_entries
    (λ x some. exact_only (record { table = table; entries = x.0 })
    (λ chain. (IsChain chain × (chain.table ≡ table)) × (entries_of chain ≡ x))
    ((some, refl), refl)
    (λ chain is. chain_again chain table x is.0.1 is.1))
    (λ chain is. (is.0, sym (append-nil (entries_read (entries_of chain))))))
    (λ chain is. (tt, refl)))
    (λ chain some. ap (λ (ps : List TextPiece). word (codes "chain ") ++ ps) (chain_text chain.entries chain.table some))
  where
    chain_again : (chain : Chain) (table : ℕ) (x : Listing Entry (Unit {0})) → chain.table ≡ table → entries_of chain ≡ x
        → chain ≡ record { table = table; entries = x.0 }
    chain_again chain table x a b =
        let P : ℕ → Chain = λ k. record { table = k; entries = chain.entries } in
        let Q : Listing Entry (Unit {0}) → Chain = λ y. record { table = table; entries = y.0 } in
        ap P a ∙ ap Q b

-- ---- as many as there are

abbrev IsLater : Bool → Type 0
IsLater true = ⊥
IsLater false = Unit {0}

abbrev IsReadyFor : ℕ → Bool → Type 0
IsReadyFor zero first = IsLater first
IsReadyFor (suc k) first = Unit {0}

abbrev pub end_line : List TextPiece
end_line = word (codes "end\n")

abbrev pub chains_form : ListForm Bool Chain Chain (Unit {0})
chains_form = record {
  IsItem = λ k first chain. IsChain chain;
  item_pieces = chain_pieces;
  IsStop = λ k first e. IsLater first;
  stop_pieces = λ e. end_line;
  lift = λ chain chains. chain;
  IsReady = IsReadyFor;
}

pub exact_end_line : (IsEnd : Type 0) → IsEnd → Exact (word_at (codes "end\n")) (λ (e : Unit {0}). IsEnd) (λ e. end_line)
exact_end_line IsEnd is = exact_same (λ (e : Unit {0}). IsEnd) (λ e. end_line) (exact_word (codes "end\n")) (λ e any. is)
    (λ e end. tt) (λ e any. refl)

chains_exact : IsExactList chains_reading chains_form
chains_exact = record {
  at_end = λ first ready. exact_end_line (IsLater first) ready;
  turns = λ k first ready. turns k first;
  ready = later;
  lifted = λ k first chain chains e is listed. refl;
}
  where
    turns : (k : ℕ) (first : Bool) → Turns chains_reading chains_form (chains_turn first) k first
    turns k true = record { item = exact_chain; no_stop = λ e is. is }
    turns k false = record {
      item = exact_chain;
      stop = exact_end_line (Unit {0}) tt;
      item_begins =
          λ chain t is. refl;
      stop_begins = λ e t is. refl;
    }

    later : (k : ℕ) (first : Bool) (chain : Chain) → IsReadyFor (suc k) first → IsChain chain → IsReadyFor k false
    later zero first chain ready is = tt
    later (suc k) first chain ready is = tt

pub chain_shorter : (text : List ℕ) (chain : Chain) (rest : List ℕ) → chain_at text ≡ got chain rest → length rest < length text
chain_shorter = shorter_by exact_chain (λ chain. omega arith)

pub chains_unlimited : IsUnlimited chains_reading chains_form
chains_unlimited = record {
  turn_same = λ k j first. refl;
  item_same = λ k j first text hk hj. refl;
  shorter = λ k first text chain rest is. chain_shorter text chain rest is;
  item_more = λ k j first chain le is. is;
  item_fits = λ k first chain chains is. is;
  stop_any = λ k j first e is. is;
  item_text = λ chain. omega arith;
}

-- at least one chain, each with an entry
pub record AreChains (x : Listing Chain (Unit {0})) : Type 0 where
  pub some : 1 ≤ length (x.0)
  pub each : AllByRecursion IsChain (x.0)

chains_to : (k : ℕ) (first : Bool) (chains : List Chain) (e : Unit {0}) → IsListed chains_reading chains_form k first chains e
    → AllByRecursion IsChain chains × (first ≡ true → 1 ≤ length chains)
chains_to zero true [] e is = absurd is
chains_to zero false [] e is = (tt, λ begun. absurd cc)
chains_to zero first (chain ∷ chains) e is = absurd is
chains_to (suc k) true [] e is = absurd is
chains_to (suc k) false [] e is = (tt, λ begun. absurd cc)
chains_to (suc k) first (chain ∷ chains) e is = let p = chains_to k false chains e is.1.1 in ((is.1.0, p.0), λ begun. omega arith)

chains_from : (k : ℕ) (first : Bool) (chains : List Chain) (e : Unit {0}) → length chains ≤ k → AllByRecursion IsChain chains
    → (first ≡ true → 1 ≤ length chains)
    → IsListed chains_reading chains_form k first chains e
chains_from zero true [] e most each some = absurd (omega (arith, some refl))
chains_from zero false [] e most each some = tt
chains_from zero first (chain ∷ chains) e most each some = absurd (omega arith)
chains_from (suc k) true [] e most each some = absurd (omega (arith, some refl))
chains_from (suc k) false [] e most each some = tt
chains_from (suc k) first (chain ∷ chains) e most each some =
    (refl, (each.0, chains_from k false chains e (omega arith) each.1 (λ begun. absurd cc)))

abbrev pub chains_pieces : Listing Chain (Unit {0}) → List TextPiece
chains_pieces x = flat_map chain_pieces (x.0) ++ end_line

chains_text : (chains : List Chain) (e : Unit {0}) → list_pieces chains_form chains e ≡ flat_map chain_pieces chains ++ end_line
chains_text [] e = refl
chains_text (chain ∷ chains) e =
    ap (λ (ps : List TextPiece). chain_pieces chain ++ ps) (chains_text chains e) ∙ sym
    (append_assoc (chain_pieces chain) (flat_map chain_pieces chains) end_line)

pub exact_chains : Exact chains_at AreChains chains_pieces
exact_chains =
    exact_same AreChains chains_pieces (exact_all chains_reading chains_form chains_unlimited chains_exact true (λ k. tt))
    (λ x is. let p = chains_to (suc is.0) true (x.0) (x.1) is.1 in record { some = p.1 refl; each = p.0 })
    (λ x is. (length (x.0), chains_from (suc (length (x.0))) true (x.0) (x.1) (omega arith) is.each (λ begun. is.some)))
    (λ x is. chains_text (x.0) (x.1))
