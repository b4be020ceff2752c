-- The first name and the others are names just where it is a name and none of them, and they are names.
use Rattle.std.proofs.Common.{refl, sym, subst, map, string_bytes}
use Rattle.tl_command.specs.Ask.{AreNames}
use Rattle.tl_command.proofs.NameLemmas.{names_cons, names_head, names_tail}
use Rattle.tl_command.proofs.WordLemmas.{words_cons}
use Rattle.tl_command.proofs.names.are_names.Goals as goal

pub returns-then-not-is_name : goal.returns-then-not-is_name
returns-then-not-is_name c =
    let rest = words_cons string_bytes c.loop-name.rest.now c.in-Some.name.now c.in-Some.later.now c.as_str.result.now
    c.in-Some.ensures.cases.0 c.as_str.ensures.value in (
      λ is. absurd cc,
      λ are. c.if-not-is_name.ensures.1 (names_head c.as_str.result.now (map string_bytes c.in-Some.later.now)
          (subst AreNames rest (c.loop-name.invariant.1 are))),
    )

pub loop-name-preserved : goal.loop-name-preserved
loop-name-preserved c =
    let rest = words_cons string_bytes c.loop-name.rest.now c.in-Some.name.now c.in-Some.later.now c.as_str.result.now
    c.in-Some.ensures.cases.0 c.as_str.ensures.value in (
      λ are. c.loop-name.invariant.0 (subst AreNames (sym rest) (names_cons c.as_str.result.now
          (map string_bytes c.in-Some.later.now) (c.if-not-is_name.ensures.0 refl) are)),
      λ are. names_tail c.as_str.result.now (map string_bytes c.in-Some.later.now)
          (subst AreNames rest (c.loop-name.invariant.1 are)),
    )
