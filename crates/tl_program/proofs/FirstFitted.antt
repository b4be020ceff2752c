-- What is found for the first bytes of a file is found for the file.
use Rattle.std.proofs.Common.{◌≡◌, inl, inr, ℕ, ◌+◌, List, [], get_or, take, Option, Some, None, subst, sym}
use Rattle.tl_base.specs.declared.breaking.Breaking.{Breaking}
use Rattle.tl_base.specs.declared.breaking.Breaking.TheVariants.{Words, Wider}
use Rattle.tl_base.specs.declared.limits.TheConstants.{MAX_FILE_BYTES}
use Rattle.tl_base.specs.declared.style.Style.{Style}
use Rattle.tl_base.specs.Desk.{Files}
use Rattle.tl_command.specs.declared.options.BreakRule.{BreakRule}
use Rattle.tl_command.specs.declared.options.BreakRule.TheVariants as rules
use Rattle.tl_command.specs.Ask.{Asked}
use Rattle.tl_read.specs.declared.reading.Reading.TheVariants as readings
use Rattle.tl_read.specs.declared.source.Source.{Source}
use Rattle.tl_read.specs.Reading.{with_breaking}
use Rattle.tl_fit.specs.Fit.{FitsWith, HasWideWords, IsFit, IsGreatest}
use Rattle.tl_lay.proofs.Inputs.{reading_of_content, reading_from_content}
use Rattle.tl_program.specs.Asks.{input_name}
use Rattle.tl_program.specs.Settled.{Settles, SettlesBy, SettlesOn, widest_page}
use Rattle.tl_program.specs.Tasks.{source_of, style_of}
use Rattle.tl_program.proofs.Asking.{settled_names}
use Rattle.tl_program.proofs.Contents.{content_of}
use Rattle.tl_program.proofs.Loading.{IsLoadedFrom}

module _ (content bytes : List ℕ) (first : take (MAX_FILE_BYTES + 1) content ≡ bytes) (source : Source) (style : Style)
    (width : ℕ) where
  -- a page that holds the table of the first bytes holds that of the file
  fits_of_first : (breaking : Breaking) → FitsWith source style width bytes breaking → FitsWith source style width content breaking
  fits_of_first breaking (table, is, laid) =
      (table, reading_of_content (with_breaking breaking source) content bytes (readings.Table table) first is, laid)

  -- and the other way round
  fits_of_file : (breaking : Breaking) → FitsWith source style width content breaking → FitsWith source style width bytes breaking
  fits_of_file breaking (table, is, laid) =
      (table, reading_from_content (with_breaking breaking source) content bytes (readings.Table table) first is, laid)

  -- where no page of the width holds the words of the first bytes whole, none holds those of the file so
  wide_of_first : HasWideWords source style width bytes → HasWideWords source style width content
  wide_of_first wide = record {
    table = wide.table;
    is = reading_of_content (with_breaking Words source) content bytes (readings.Table wide.table) first wide.is;
    narrow = λ fits. wide.narrow (fits_of_file Words fits);
  }

  -- the greatest number of the first bytes is that of the file
  greatest_of_first : (most : ℕ) → IsGreatest source style width bytes most → IsGreatest source style width content most
  greatest_of_first most is = record {
    within = is.within;
    fits = elim is.fits [
      | inl none ↦ inl none
      | inr fits ↦ inr (fits_of_first (Wider most) fits)
    ];
    greatest = λ more above within fits. is.greatest more above within (fits_of_file (Wider more) fits);
  }

  -- the fit of the first bytes is that of the file
  fit_first : (breaking : Breaking) → IsFit source style width bytes breaking → IsFit source style width content breaking
  fit_first Words (inl fits) = inl (fits_of_first Words fits)
  fit_first Words (inr none) =
      inr (λ table is. none table (reading_from_content (with_breaking Words source) content bytes (readings.Table table) first is))
  fit_first (Wider most) (wide, greatest) = (wide_of_first wide, greatest_of_first most greatest)

-- what is asked of the first bytes is asked of the file
settles_content : (asked settled : Asked) (content bytes : List ℕ) → take (MAX_FILE_BYTES + 1) content ≡ bytes →
    Settles bytes asked settled → Settles content asked settled
settles_content asked settled content bytes first = by asked.options.breaking
  where
    by : (rule : Option BreakRule) → SettlesBy rule bytes asked settled → SettlesBy rule content asked settled
    by None is = is
    by (Some rules.Words) is = is
    by (Some rules.Any) is = is
    by (Some (rules.Wider most)) is = is
    by (Some rules.Fit) (breaking, fit, is) = (
      breaking,
      fit_first content bytes first (source_of asked) (style_of asked) (widest_page asked) breaking fit,
      is,
    )
    by (Some (rules.Fitted most)) is = is

-- what is asked of the bytes that were loaded is asked of what the file holds
pub settles_loaded : (files : Option Files) (asked settled : Asked) (bytes : List ℕ) → IsLoadedFrom files (input_name asked) bytes →
    Settles bytes asked settled → SettlesOn files asked settled
settles_loaded files asked settled bytes loaded settles =
    let content = content_of MAX_FILE_BYTES files (input_name asked) bytes loaded.short loaded.read in
    (content.0, content.1, settles_content asked settled content.0 bytes content.2 settles)

-- it is the same file
pub loaded_settled : (files : Option Files) (asked settled : Asked) (bytes : List ℕ) → Settles bytes asked settled →
    IsLoadedFrom files (input_name asked) bytes → IsLoadedFrom files (input_name settled) bytes
loaded_settled files asked settled bytes settles =
    subst (λ (names : List (List ℕ)). IsLoadedFrom files (get_or names 0 []) bytes)
    (sym (settled_names asked settled bytes settles))
