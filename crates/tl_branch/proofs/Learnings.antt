-- A search that learns stays one: when a line is put, when a cut is made, when the store tries a line, and for a lower height.
use Rattle.std.proofs.Common.{◌≡◌, ◌≢◌, ℕ, ◌+◌, ◌*◌, ◌<◌, ◌≤◌, Bool, true, false, IsTrue, ◌↔◌, List, [], ◌∷◌, ◌++◌, inl, inr}
use Rattle.std.proofs.Common.{length, get_or, set, Option, Some, None, refl, sym, ap, ◌∙◌, subst, arith, length-append, ◌⊎◌}
use Rattle.std.specs.Option.{is_some}
use Rattle.std.specs.declared.vec.Vec.{Vec}
use Rattle.std.specs.declared.alloc.Global.{Global}
use Rattle.std.specs.List.{All, Contains}
use Rattle.std.proofs.lemmas.Bool.{cases_lt}
use Rattle.std.proofs.lemmas.List.{get_or_append_left, get_or_push}
use Rattle.std.proofs.lemmas.List.Sums.{count_by-le-length}
use Rattle.tl_problem.specs.Problem.{ProblemModel}
use Rattle.tl_problem.specs.Zones.{whole_zone}
use Rattle.tl_cert.specs.declared.limits.TheConstants.{MAX_LINE}
use Rattle.tl_cert.specs.declared.log.Bound.{Bound}
use Rattle.tl_cert.specs.declared.log.End.{End}
use Rattle.tl_cert.specs.declared.log.End.TheVariants.{Fired}
use Rattle.tl_cert.specs.declared.log.LogLine.{LogLine}
use Rattle.tl_cert.specs.declared.log.Nogood.{Nogood}
use Rattle.tl_cert.specs.declared.log.Nogood.TheVariants.{Zone, Bounds}
use Rattle.tl_cert.specs.declared.trace.CutAt.{CutAt}
use Rattle.tl_cert.specs.Learnt.{nogoods_in}
use Rattle.tl_cert.specs.Lines.{IsGoodLine}
use Rattle.tl_cert.specs.Nogoods.{zone_bounds, nogood_bounds}
use Rattle.tl_cert.specs.Traces.{zone_of, IsZoneOf, IsCut}
use Rattle.tl_cert.proofs.TraceLaws.{zone-old, zones-are}
use Rattle.tl_check.specs.Checkers.{IsReserved, StaysReserved}
use Rattle.tl_solve.specs.declared.arena.Arena.{Arena}
use Rattle.tl_solve.specs.Arenas.{IsArenaOf, IsLowered}
use Rattle.tl_solve.proofs.ArenaLaws.{lowered-le}
use Rattle.tl_store.specs.declared.store.Store.{Store}
use Rattle.tl_store.specs.Shrunk.{IsShort, IsShrunk}
use Rattle.tl_store.specs.Stores.{IsAddedNogood, IsStoreOf, nogoods_of}
use Rattle.tl_branch.specs.declared.learning.Learning.{Learning}
use Rattle.tl_branch.specs.Learn.{FiresAreNeeded, IsUnclosed}
use Rattle.tl_branch.specs.inner.Learnings.{IsKeptLine, AreKeptLines, IsLineWritable, IsOfZone, IsLearning}
use Rattle.tl_branch.specs.inner.Learnings.{line_of, log_nogoods, KeepsLog, AreLinesOf, WereKnown, HasEnd}
use Rattle.tl_branch.proofs.Fires.{needed-fewer}
use Rattle.tl_branch.proofs.Good.{GoesOn, good-lower, minimal-higher, kept-on}
use Rattle.tl_branch.proofs.ZoneLines.{zone_line-writable, bounds_line-writable}
use Rattle.tl_branch.proofs.Zones.{lines-put, lines-cut, of-zone-push, nogoods-count, nogoods-push, nogoods-on}
use Rattle.tl_branch.proofs.Zones.{keeps-push, known-push, known-cut, unclosed-push, going-push, end-push}

-- a checker that is reserved for some cuts is so for fewer
pub reserved-fewer : (problem : ProblemModel) (cuts fewer : ℕ) (store : Store) → fewer ≤ cuts →
    IsReserved problem cuts store.checker → IsReserved problem fewer store.checker
reserved-fewer problem cuts fewer store less is = record {
  few = omega (arith, less, is.few);
  page = is.page;
  none_held = is.none_held;
  marks = is.marks;
  opening = is.opening;
  flags = omega (arith, less, is.flags);
}

module _ (problem : ProblemModel) (l : Learning) (is : IsLearning problem l) where
  abbrev trace : List CutAt
  trace = l.arena.trace

  abbrev nogoods : List (List Bound)
  nogoods = log_nogoods problem l

  -- the height is at most that of the opening
  pub below-opening : l.height ≤ l.arena.opening
  below-opening =
      let opening = is.arena.opening in
      omega (arith, is.low, lowered-le opening.0 l.arena.best opening.3, opening.2)

  -- the log is short
  pub log-short : length l.log ≤ 2 * length l.arena.trace + 1
  log-short = omega (
    arith,
    nogoods-count problem trace l.log,
    is.lines.few,
    count_by-le-length is_some l.lines.items,
    is.lines.count,
  )

  -- the search with another store of the same nogoods
  pub learning-store : (store : Store) → IsStoreOf problem store → nogoods_of store ≡ nogoods_of l.store →
      StaysReserved problem l.store.checker store.checker → IsLearning problem (record l { store = store })
  learning-store store ok same stays = record {
    arena = is.arena;
    store = ok;
    reserved = stays l.budget is.reserved;
    within = is.within;
    few = is.few;
    low = is.low;
    lines_good = is.lines_good;
    lines = is.lines;
    kept = subst (KeepsLog nogoods) (sym same) is.kept;
    known = is.known;
    going = is.going;
    ended = is.ended;
    agree = is.agree;
  }

  -- the search for a lower height
  pub learning-lower : (height : ℕ) → height ≤ l.height → IsLearning problem (record l { height = height })
  learning-lower height less = record {
    arena = is.arena;
    store = is.store;
    reserved = is.reserved;
    within = is.within;
    few = is.few;
    low = omega (arith, less, is.low);
    lines_good = λ k d within.
        let kept = is.lines_good k d within in
        record {
          good = good-lower problem trace l.log height l.height k (get_or l.log k d) less kept.good;
          minimal = kept.minimal;
          needed = kept.needed;
          writable = kept.writable;
        };
    lines = is.lines;
    kept = is.kept;
    known = is.known;
    going = is.going;
    ended = is.ended;
    agree = is.agree;
  }

  -- a line at the end of the log closes no zone that no line closed
  pub unclosed-line : (p : ProblemModel) (line : LogLine) (cut : CutAt) →
      IsUnclosed p (nogoods_in p l.arena.trace l.log) l.arena.trace cut →
      IsUnclosed p (nogoods_in p l.arena.trace (l.log ++ line ∷ [])) l.arena.trace cut
  unclosed-line p line cut was = subst (λ (ns : List (List Bound)). IsUnclosed p ns l.arena.trace cut)
      (sym (nogoods-push p l.arena.trace l.log line))
      (unclosed-push p (nogoods_in p l.arena.trace l.log) (nogood_bounds p l.arena.trace line.nogood) l.arena.trace cut was)

  -- ---- a line is put

  module _ (z : ℕ) (there : IsZoneOf l.arena.trace z) (fires : List ℕ) (end : End) (short : length fires ≤ 2) (new : LogLine)
      (good : IsGoodLine problem l.arena.trace l.log l.height (length l.log) (line_of z fires end))
      (shrunk : IsShrunk problem l.arena.trace l.log l.height (length l.log) (line_of z fires end) new)
      (whole : (fires ≡ []) ⊎ (end ≡ Fired))
      (needed : FiresAreNeeded problem l.arena.trace l.log (length l.log) (line_of z fires end)) where
    few-fires : All (λ f. f ≤ MAX_LINE) new.fires
    few-fires i d within =
        let before = (shrunk.good.earlier i d within).0 in
        omega (arith, before, log-short, is.within, is.few)

    two-fires : length new.fires ≤ 2
    two-fires = omega (arith, ap length shrunk.fires, short)

    writable-by : (n : Nogood) → IsShort n →
        ((b : Bound) → Contains (nogood_bounds problem trace n) b → Contains (zone_bounds problem (zone_of problem trace z)) b) →
        IsLineWritable (record { nogood = n; fires = new.fires; end = new.end })
    writable-by (Zone y) zero among = zone_line-writable y new.fires new.end (omega (arith, zero)) few-fires two-fires
    writable-by (Bounds bounds) few among = bounds_line-writable problem is.arena.work.sound (zone_of problem trace z)
        (zones-are problem is.arena.work.sound trace is.arena.trace_of z there) bounds new.fires new.end few.some few.most
        few.sorted among few-fires two-fires

    new-kept : IsKeptLine problem trace l.log l.height l.arena.opening (length l.log) new
    new-kept = record {
      good = shrunk.good;
      minimal = λ few. elim shrunk.small [
        | inl minimal ↦ minimal-higher problem trace l.log l.height l.arena.opening (length l.log) new below-opening minimal.0
        | inr old ↦
            let more = old.1.long in
            let less = old.1.no_more in
            absurd (omega (arith, more, less, few, ap (λ (line : LogLine). length (nogood_bounds problem trace line.nogood)) old.0))
      ];
      needed = needed-fewer problem trace l.log (length l.log) (line_of z fires end) new whole short there shrunk.fires shrunk.end
          shrunk.among needed;
      writable = elim shrunk.small [
        | inl minimal ↦ writable-by new.nogood minimal.1 shrunk.among
        | inr old ↦ subst IsLineWritable (sym old.0) (zone_line-writable z fires end
            (omega (arith, there, is.within, is.few)) (subst (λ (fs : List ℕ). All (λ f. f ≤ MAX_LINE) fs) shrunk.fires few-fires)
            short)
      ];
    }

    module _ (store : Store) (ok : IsStoreOf problem store) (reserved : IsReserved problem l.budget store.checker) (number : ℕ)
        (added : IsAddedNogood (nogoods_of l.store) (nogoods_of store) (nogood_bounds problem l.arena.trace new.nogood) number)
        (none : get_or l.lines.items z None ≡ None) (within : z < length l.lines.items) where
      count : length nogoods ≡ length l.log
      count = nogoods-count problem trace l.log

      -- its nogood was there
      module _ (old : number < length l.log) where
        same-kept : nogoods_of store ≡ nogoods_of l.store
        same-kept = added.before (omega (arith, old, count, is.kept.count))

        old-of_zone : IsOfZone problem trace nogoods z number
        old-of_zone = record {
          there = omega (arith, old, count);
          among = λ bound has. shrunk.among bound ((added.same bound).1
              (subst (λ (kept : List (List Bound)). Contains (get_or kept number []) bound) (sym same-kept)
              ((is.kept.each number (omega (arith, old, count)) bound).0 has)));
        }

        pub learning-old : (ls : Vec (Option ℕ) Global) → ls.items ≡ set l.lines.items z (Some number) →
            IsLearning problem (record l { store = store; lines = ls })
        learning-old ls set_is = record {
          arena = is.arena;
          store = ok;
          reserved = reserved;
          within = is.within;
          few = is.few;
          low = is.low;
          lines_good = is.lines_good;
          lines = subst (AreLinesOf problem trace nogoods) (sym set_is) (lines-put problem trace nogoods nogoods l.lines.items z
              number is.lines within none (omega arith) (λ y n was. was) old-of_zone);
          kept = subst (KeepsLog nogoods) (sym same-kept) is.kept;
          known = is.known;
          going = is.going;
          ended = is.ended;
          agree = is.agree;
        }

      -- its nogood is new, and comes last
      module _ (past : length l.log ≤ number) where
        bounds : List Bound
        bounds = nogood_bounds problem l.arena.trace new.nogood

        last : (number ≡ length (nogoods_of l.store))
            × (nogoods_of store ≡ nogoods_of l.store ++ get_or (nogoods_of store) number [] ∷ [])
        last = added.last (omega (arith, past, count, is.kept.count))

        number-is : number ≡ length l.log
        number-is = omega (arith, last.0, is.kept.count, count)

        on : GoesOn problem l.arena.trace l.arena.trace l.log (l.log ++ new ∷ [])
        on = record {
          zones = λ y is_there. is_there;
          same = λ y is_there. refl;
          lines = λ k d inside. get_or_append_left l.log (new ∷ []) d k inside;
          names = λ k d inside. (is.lines_good k d inside).good.names;
        }

        more-good : AreKeptLines problem l.arena.trace l.height l.arena.opening (l.log ++ new ∷ [])
        more-good k d inside = elim (cases_lt k (length l.log)) [
          | inl old ↦ subst (IsKeptLine problem trace (l.log ++ new ∷ []) l.height l.arena.opening k)
              (sym (get_or_append_left l.log (new ∷ []) d k old))
              (kept-on problem trace trace l.log (l.log ++ new ∷ []) on l.height l.height l.arena.opening k (get_or l.log k d)
              (omega (arith, old)) (omega arith) (is.lines_good k d old))
          | inr late ↦
              let here : length l.log ≡ k = omega (arith, late, inside, length-append l.log (new ∷ [])) in
              subst (IsKeptLine problem trace (l.log ++ new ∷ []) l.height l.arena.opening k)
              (sym (get_or_push l.log new d k here))
              (subst (λ (n : ℕ). IsKeptLine problem trace (l.log ++ new ∷ []) l.height l.arena.opening n new) here
              (kept-on problem trace trace l.log (l.log ++ new ∷ []) on l.height l.height l.arena.opening (length l.log) new
              (omega arith) (omega arith) new-kept))
        ]

        new-of_zone : IsOfZone problem trace (nogoods ++ nogood_bounds problem l.arena.trace new.nogood ∷ []) z number
        new-of_zone = record {
          there = omega (arith, number-is, count, length-append nogoods (nogood_bounds problem l.arena.trace new.nogood ∷ []));
          among = λ bound has. shrunk.among bound (subst (λ (bs : List Bound). Contains bs bound)
              (get_or_push nogoods (nogood_bounds problem l.arena.trace new.nogood) [] number
              (omega (arith, number-is, count))) has);
        }

        pub learning-new : (log : List LogLine) → log ≡ l.log ++ new ∷ [] → (ls : Vec (Option ℕ) Global) →
            ls.items ≡ set l.lines.items z (Some number) → (done : Bool) → l.done ≡ false →
            (IsTrue done ↔ (nogood_bounds problem l.arena.trace new.nogood ≡ [])) →
            IsLearning problem (record l { store = store; log = log; lines = ls; done = done })
        learning-new log log_is ls set_is done going empty =
            let x = nogood_bounds problem l.arena.trace new.nogood in
            let push : nogoods_in problem trace log ≡ nogoods ++ x ∷ [] =
            ap (nogoods_in problem trace) log_is ∙ nogoods-push problem trace l.log new in
            record {
              arena = is.arena;
              store = ok;
              reserved = reserved;
              within = is.within;
              few = is.few;
              low = is.low;
              lines_good = subst (AreKeptLines problem trace l.height l.arena.opening) (sym log_is) more-good;
              lines = subst (λ (ns : List (List Bound)). AreLinesOf problem trace ns ls.items) (sym push)
                  (subst (AreLinesOf problem trace (nogoods ++ x ∷ [])) (sym set_is)
                  (lines-put problem trace nogoods (nogoods ++ x ∷ []) l.lines.items z number is.lines within none
                  (omega (arith, length-append nogoods (x ∷ []))) (λ y n was. of-zone-push problem trace nogoods x y n was)
                  new-of_zone));
              kept = subst (λ (ns : List (List Bound)). KeepsLog ns (nogoods_of store)) (sym push)
                  (subst (KeepsLog (nogoods ++ x ∷ [])) (sym last.1)
                  (keeps-push nogoods (nogoods_of l.store) x (get_or (nogoods_of store) number []) is.kept added.same));
              known = λ low. subst (WereKnown problem trace) (sym push) (known-push problem trace nogoods x (is.known low));
              going = λ still. subst (λ (ns : List (List Bound)). (k : ℕ) → k < length ns → get_or ns k [] ≢ []) (sym push)
                  (going-push nogoods x (is.going going) (λ none_there. let never : true ≡ false = sym (empty.1 none_there)
                  ∙ still in cc));
              ended = λ now. subst (HasEnd problem trace) (sym log_is) (end-push problem trace l.log new (empty.0 now));
              agree = is.agree;
            }

  -- ---- a cut is made

  module _ (cut : CutAt) (now : IsCut (whole_zone problem) l.arena.trace cut) (arena : Arena) (ok : IsArenaOf problem arena)
      (trace_is : arena.trace ≡ l.arena.trace ++ cut ∷ []) (opening_is : arena.opening ≡ l.arena.opening)
      (lowered : IsLowered l.arena.best arena.best) (few : length l.arena.trace < l.budget)
      (height : l.height ≡ l.arena.best.height)
      (unclosed : IsTrue l.low_is_high → IsUnclosed problem (log_nogoods problem l) l.arena.trace cut) where
    abbrev more : List CutAt
    more = l.arena.trace ++ cut ∷ []

    cut-on : GoesOn problem l.arena.trace (l.arena.trace ++ cut ∷ []) l.log l.log
    cut-on = record {
      zones = λ y is_there. omega (arith, is_there, length-append l.arena.trace (cut ∷ []));
      same = λ y is_there. zone-old (whole_zone problem) l.arena.trace cut y is_there;
      lines = λ k d inside. refl;
      names = λ k d inside. (is.lines_good k d inside).good.names;
    }

    lower-best : arena.best.height ≤ l.height
    lower-best = omega (arith, lowered-le l.arena.best arena.best lowered, height)

    cut-good : AreKeptLines problem (l.arena.trace ++ cut ∷ []) arena.best.height l.arena.opening l.log
    cut-good k d inside = kept-on problem trace more l.log l.log cut-on l.height arena.best.height l.arena.opening k
        (get_or l.log k d) (omega (arith, inside)) lower-best (is.lines_good k d inside)

    same-nogoods : nogoods_in problem arena.trace l.log ≡ nogoods
    same-nogoods = ap (λ (t : List CutAt). nogoods_in problem t l.log) trace_is ∙ nogoods-on problem trace more l.log cut-on

    learning-cut_at : l.done ≡ false → (ls : Vec (Option ℕ) Global) → ls.items ≡ (l.lines.items ++ None ∷ []) ++ None ∷ [] →
        IsLearning problem (record l { arena = arena; lines = ls; height = arena.best.height })
    learning-cut_at going ls lines_is = record {
      arena = ok;
      store = is.store;
      reserved = is.reserved;
      within = omega (arith, few, ap length trace_is, length-append l.arena.trace (cut ∷ []));
      few = is.few;
      low = omega arith;
      lines_good = subst (λ (t : List CutAt). AreKeptLines problem t arena.best.height arena.opening l.log) (sym trace_is)
          (subst (λ (h : ℕ). AreKeptLines problem more arena.best.height h l.log) (sym opening_is) cut-good);
      lines = subst (λ (ns : List (List Bound)). AreLinesOf problem arena.trace ns ls.items) (sym same-nogoods)
          (subst (λ (t : List CutAt). AreLinesOf problem t nogoods ls.items) (sym trace_is)
          (subst (AreLinesOf problem more nogoods) (sym lines_is)
          (lines-cut problem trace cut nogoods l.lines.items is.lines)));
      kept = subst (λ (ns : List (List Bound)). KeepsLog ns (nogoods_of l.store)) (sym same-nogoods) is.kept;
      known = λ low. subst (λ (ns : List (List Bound)). WereKnown problem arena.trace ns) (sym same-nogoods)
          (subst (λ (t : List CutAt). WereKnown problem t nogoods) (sym trace_is)
          (known-cut problem trace cut nogoods (is.known low) (unclosed low)));
      going = λ still. subst (λ (ns : List (List Bound)). (k : ℕ) → k < length ns → get_or ns k [] ≢ []) (sym same-nogoods)
          (is.going still);
      ended = λ now_done. let never : true ≡ false = sym now_done ∙ going in absurd cc;
      agree = is.agree;
    }

    pub learning-cut : l.done ≡ false → (ls : Vec (Option ℕ) Global) → ls.items ≡ (l.lines.items ++ None ∷ []) ++ None ∷ [] →
        (h : ℕ) → h ≡ arena.best.height → IsLearning problem (record l { arena = arena; lines = ls; height = h })
    learning-cut going ls lines_is h same = subst (λ (n : ℕ). IsLearning problem (record l {
      arena = arena;
      lines = ls;
      height = n;
    })) (sym same) (learning-cut_at going ls lines_is)
