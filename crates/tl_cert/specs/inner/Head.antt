-- No public clause cites this file. The first line of a certificate's text.
use Rattle.std.specs.Prelude.{ℕ, List, [], ◌∷◌, ◌++◌, codes}
use Rattle.tl_cert.specs.declared.certificate.Certificate.{Certificate}
use Rattle.tl_cert.specs.Pieces.{numeral}
use Rattle.tl_cert.specs.Text.{space, line_feed, version_word, style_field, has_area}

-- `tablelayout V WIDTH STYLE BUDGET`
abbrev pub head_text : Certificate → List ℕ
head_text c =
    codes "tablelayout "
    ++ (version_word (has_area c.sections)
    ++ ((numeral c.width ++ (space ∷ []))
    ++ (style_field c.style
    ++ (numeral c.budget ++ (line_feed ∷ [])))))
