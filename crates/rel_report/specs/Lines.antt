-- The lines that are printed for a verdict on a bundle.
use Rattle.std.specs.Prelude.{◌≡◌, ℕ, zero, suc, ◌+◌, ◌<◌, List, [], ◌∷◌, ◌++◌, length, codes}
use Rattle.std.specs.Fmt.{decimal}
use Rattle.rel_lang.specs.Syntax.{Item, OfClass, OfInterface, OfModule, OfUnit, OfClient, OfJudgement, OfPair}
use Rattle.rel_lang.specs.Typed.{item_name}
use Rattle.rel_lang.specs.declared.fault.LexKind.{LexKind}
use Rattle.rel_lang.specs.declared.fault.LexKind.TheVariants.{BadChar, WideLiteral}
use Rattle.rel_lang.specs.declared.fault.TypeKind.{TypeKind}
use Rattle.rel_lang.specs.declared.fault.TypeKind.TheVariants.{Twice, Unknown, Missing, NoMain, NotVisible, WrongArity, Target, OldHere, NotCode, WrongType}
use Rattle.rel_report.specs.declared.verdict.Verdict.{Verdict}
use Rattle.rel_report.specs.declared.verdict.Verdict.TheVariants.{TooLargeBundle, NotUtf8, Lexical, Syntax, TooDeep, TooMany, Typing, NotBuilt, TooLargeProof, NotJson, MalformedFile, MalformedProof, MalformedStep, TooLong, ProofCount, BadStep, OpenNodes, Yes}

-- a text and the line feed that ends a line
abbrev pub line : List ℕ → List ℕ
line text = text ++ 10 ∷ []

-- ---- items

-- the first word of an item
abbrev pub kind_of : Item → List ℕ
kind_of (OfClass c) = codes "class"
kind_of (OfInterface i) = codes "interface"
kind_of (OfModule m) = codes "module"
kind_of (OfUnit u) = codes "unit"
kind_of (OfClient c) = codes "client"
kind_of (OfJudgement j) = codes "judge"
kind_of (OfPair p) = codes "pair"

-- `KIND NAME`
abbrev pub words_of : Item → List ℕ
words_of i = kind_of i ++ (codes " " ++ item_name i)

-- the words of the item of this number, counted from 0
abbrev pub words_at : List Item → ℕ → List ℕ
words_at [] n = []
words_at (i ∷ is) zero = words_of i
words_at (i ∷ is) (suc n) = words_at is n

-- ---- refusals

abbrev pub refused : List ℕ → List ℕ
refused why = codes "refused " ++ line why

-- at this byte
abbrev pub refused_at : List ℕ → ℕ → List ℕ
refused_at why at = codes "refused " ++ (why ++ (codes " at " ++ line (decimal at)))

abbrev pub lexical_words : LexKind → List ℕ
lexical_words BadChar = codes "Lexical BadChar"
lexical_words WideLiteral = codes "Lexical WideLiteral"

abbrev pub typing_words : TypeKind → List ℕ
typing_words Twice = codes "Typing Twice"
typing_words Unknown = codes "Typing Unknown"
typing_words Missing = codes "Typing Missing"
typing_words NoMain = codes "Typing NoMain"
typing_words NotVisible = codes "Typing NotVisible"
typing_words WrongArity = codes "Typing WrongArity"
typing_words Target = codes "Typing Target"
typing_words OldHere = codes "Typing OldHere"
typing_words NotCode = codes "Typing NotCode"
typing_words WrongType = codes "Typing WrongType"

-- ---- yes

-- the item has so many obligations
abbrev pub item_line : Item → ℕ → List ℕ
item_line i count = words_of i ++ (codes ": " ++ (decimal count ++ line (codes " obligations")))

-- each item with its count
abbrev pub item_lines : List Item → List ℕ → List (List ℕ)
item_lines [] counts = []
item_lines (i ∷ is) [] = []
item_lines (i ∷ is) (n ∷ counts) = item_line i n ∷ item_lines is counts

abbrev pub sum_of : List ℕ → ℕ
sum_of [] = 0
sum_of (n ∷ counts) = n + sum_of counts

-- so many items and obligations in all
abbrev pub yes_line : ℕ → ℕ → List ℕ
yes_line items obligations = codes "yes: " ++ (decimal items ++ (codes " items, " ++ (decimal obligations ++ line (codes " obligations"))))

-- ---- verdicts

-- The lines of a verdict on a bundle of these items.
abbrev pub lines : Verdict → List Item → List (List ℕ)
lines TooLargeBundle is = refused (codes "TooLarge bundle") ∷ []
lines (NotUtf8 at) is = refused_at (codes "NotUtf8") at ∷ []
lines (Lexical kind at) is = refused_at (lexical_words kind) at ∷ []
lines (Syntax at) is = refused_at (codes "Syntax") at ∷ []
lines (TooDeep at) is = refused_at (codes "TooDeep") at ∷ []
lines (TooMany at) is = refused_at (codes "TooMany") at ∷ []
lines (Typing kind at) is = refused_at (typing_words kind) at ∷ []
lines NotBuilt is = refused (codes "NotBuilt bundle") ∷ []
lines TooLargeProof is = refused (codes "TooLarge proof") ∷ []
lines NotJson is = refused (codes "NotJson") ∷ []
lines MalformedFile is = refused (codes "Malformed file") ∷ []
lines (MalformedProof proof) is = refused (codes "Malformed proof " ++ decimal proof) ∷ []
lines (MalformedStep proof step) is = refused (codes "Malformed proof " ++ (decimal proof ++ (codes " step " ++ decimal step))) ∷ []
lines (TooLong proof) is = refused (codes "TooLong proof " ++ decimal proof) ∷ []
lines (ProofCount proofs obligations) is = refused (codes "ProofCount " ++ (decimal proofs ++ (codes " of " ++ decimal obligations))) ∷ []
lines (BadStep obligation step item at) is =
    refused_at (codes "BadStep obligation " ++ (decimal obligation ++ (codes " step " ++ (decimal step ++ (codes " in " ++ words_at is item))))) at ∷ []
lines (OpenNodes nodes obligation item at) is =
    refused_at (codes "OpenNodes " ++ (decimal nodes ++ (codes " obligation " ++ (decimal obligation ++ (codes " in " ++ words_at is item))))) at ∷ []
lines (Yes counts) is = item_lines is counts ++ yes_line (length is) (sum_of counts) ∷ []

-- an item that the verdict names is one of these, and a yes has a count for each of them
abbrev pub IsAbout : Verdict → List Item → Type 0
IsAbout (BadStep obligation step item at) is = item < length is
IsAbout (OpenNodes nodes obligation item at) is = item < length is
IsAbout (Yes counts) is = length counts ≡ length is
IsAbout v is = Unit {0}
