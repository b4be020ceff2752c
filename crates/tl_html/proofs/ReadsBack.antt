-- The page of a table spells the table again, with tables nested to any depth.
use Rattle.std.proofs.Common.{◌≡◌, ◌∙◌, ℕ, zero, suc, List, [], ◌∷◌, ◌++◌, map, refl, sym, ap, subst, append-nil}
use Rattle.std.specs.List.{AllByRecursion, AllZip}
use Rattle.tl_base.specs.declared.breaking.Breaking.{Breaking}
use Rattle.tl_base.proofs.Members.{AllByRecursion-append}
use Rattle.tl_token.specs.Spelling.{without_mark}
use Rattle.tl_token.specs.declared.token.Token.{Token}
use Rattle.tl_tree.specs.Grammar.{Marks, no_outer, outer_space}
use Rattle.tl_tree.specs.Grammar as grammar
use Rattle.tl_tree.specs.Outline.{outline}
use Rattle.tl_tree.specs.Paragraphs.{leading, atoms_of, paragraph_of, entries_after, entries_of}
use Rattle.tl_tree.specs.Tags.{Kinds, class_of, kinds, table_end, text}
use Rattle.tl_table.specs.declared.cell.Table.{Table, out-Table, fold_out-Table}
use Rattle.tl_table.specs.declared.layout.Layout.{Layout, out-Layout}
use Rattle.tl_table.specs.Formed.{BecomesWithin}
use Rattle.tl_table.specs.Sound.{IsSoundWithin}
use Rattle.tl_table.specs.Tables.{inner_tables}
use Rattle.tl_html.specs.Alike.{AreAlikeWithin}
use Rattle.tl_html.specs.Html.{Block, HtmlCell, block_page, table_page, cell_page, html_of}
use Rattle.tl_html.specs.Laws.{PageReadsBack}
use Rattle.tl_html.specs.Readable.{HasColumnsWithin}
use Rattle.tl_table.specs.Spellable.{IsSpellableWithin}
use Rattle.tl_html.proofs.Items.{Item, IsItem, kind_of, items_spelt}
use Rattle.tl_html.proofs.PageTags as page_tags
use Rattle.tl_html.proofs.PageWords.{grammar_kinds, kinds_append}
use Rattle.tl_html.proofs.Blocks.{TableBack, last_item}
use Rattle.tl_html.proofs.TableAgain.{table_again}

-- each of the tables is so, and each of its layouts is one of it
zip_both : {X Y : Type 0} (A B : X → Type 0) (R : X → Y → Type 0) (xs : List X) (ys : List Y) → AllByRecursion A xs →
    AllByRecursion B xs → AllZip R xs ys → AllZip (λ x y. A x × B x × R x y) xs ys
zip_both A B R [] [] one other zip = tt
zip_both A B R [] (y ∷ ys) one other zip = absurd zip
zip_both A B R (x ∷ xs) [] one other zip = absurd zip
zip_both A B R (x ∷ xs) (y ∷ ys) one other zip = ((one.0, other.0, zip.0), zip_both A B R xs ys one.1 other.1 zip.1)

-- a table with others nested in it
within_back : (depth deep wide : ℕ) (breaking : Breaking) (table : Table) (layout : Layout) (k : ℕ) →
    IsSoundWithin depth table → IsSpellableWithin deep breaking table → HasColumnsWithin wide table layout →
    TableBack (BecomesWithin depth breaking) (AreAlikeWithin depth) table layout k
within_back zero deep wide breaking table layout k sound spelt fits = absurd sound
within_back (suc depth) zero wide breaking table layout k sound spelt fits = absurd spelt
within_back (suc depth) (suc deep) zero breaking table layout k sound spelt fits = absurd fits
within_back (suc depth) (suc deep) (suc wide) breaking table layout k sound spelt fits =
    table_again breaking (BecomesWithin depth breaking) (AreAlikeWithin depth)
    (λ t l. IsSoundWithin depth t × IsSpellableWithin deep breaking t × HasColumnsWithin wide t l)
    (λ t l number is. within_back depth deep wide breaking t l number is.0 is.1 is.2)
    (IsSoundWithin depth) (IsSpellableWithin deep breaking) table layout k sound spelt (record {
      columns = fits.columns;
      inner = zip_both (IsSoundWithin depth) (IsSpellableWithin deep breaking) (HasColumnsWithin wide)
          (inner_tables (out-Table table)) (out-Layout layout).inner sound.inner spelt.inner fits.inner;
    })

-- a page begins with a tag
begins : (table : Table) (layout : Layout) → (rest : List ℕ) × (html_of table layout ≡ 0x3C ∷ rest)
begins table layout = (
  _,
  ap (λ (page : Layout → List ℕ). page layout) (fold_out-Table Block (Layout →
      List ℕ) HtmlCell block_page table_page cell_page table),
)

-- the kinds of tokens are those of what they are to the grammar
pub kinds_are : (tokens : List Token) → kinds tokens ≡ map class_of (map kind_of tokens)
kinds_are [] = refl
kinds_are (t ∷ tokens) = ap (λ (ks : Kinds). class_of t.kind ∷ ks) (kinds_are tokens)

pub reads_back : PageReadsBack
reads_back table layout bytes page sound columns =
    let t = within_back sound.depth sound.spellable.0 columns.0 sound.breaking table layout 0 sound.sound sound.spellable.1
    columns.1 in
    let items : List Item = t.prefix ++ last_item ∷ [] in
    let all : AllByRecursion IsItem items = AllByRecursion-append IsItem t.prefix (last_item ∷ []) t.are
    ((page_tags.table_end, (refl, tt)), tt) in
    let begun = begins table layout in
    let first = page.1 ∙ begun.1 in
    let (tokens, spelt) = items_spelt bytes items page.0 (page.1 ∙ t.written) (ap without_mark first ∙ sym first) all in
    let feed : Kinds = text (0x0A ∷ []) ∷ [] in
    let read : kinds tokens ≡ grammar_kinds t.prefix ++ (table_end ∷ feed) = kinds_are tokens ∙ ap (map class_of) spelt.1
    ∙ kinds_append t.prefix (last_item ∷ []) in
    let whole : grammar.Table (kinds tokens) t.ms feed [] =
    subst (λ (ks : Kinds). grammar.Table ks t.ms feed []) (sym read)
    (subst (λ (ms : Marks). grammar.Table (grammar_kinds t.prefix ++ (table_end ∷ feed)) ms feed []) (append-nil t.ms)
    (t.reads feed [])) in
    let sharp : leading t.ms ≡ [] = subst (λ (ms : Marks). leading ms ≡ []) (append-nil t.ms) (t.sharp []) in
    let same : entries_of 0 t.ms ≡ outline t.node =
    ap (λ (ms : Marks). paragraph_of (atoms_of ms) ++ entries_after 0 t.ms) sharp
    ∙ ap (entries_after 0) (sym (append-nil t.ms)) ∙ t.stand [] ∙ append-nil (outline t.node) in (
      t.back,
      record {
        tokens = tokens;
        cut = spelt.0;
        node = t.node;
        read = record {
          marks = t.ms;
          document = record {
            before = kinds tokens;
            after = feed;
            led = no_outer;
            whole = whole;
            followed =
                outer_space refl no_outer;
          };
          same = sym same;
        };
        formed = (sound.depth, t.become);
      },
      (sound.depth, t.same),
    )
