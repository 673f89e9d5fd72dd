-- The lines that are printed.
use Rattle.std.specs.Prelude.{ℕ, List, [], ◌∷◌, ◌++◌, codes}
use Rattle.std.specs.Fmt.{decimal}
use Rattle.rel_lang.specs.Typed.{item_name}
use Rattle.rel_lang.specs.Syntax.{Word, Item, OfClass, OfInterface, OfModule, OfUnit, OfClient, OfJudgement, OfPair}
use Rattle.rel_lang.specs.declared.fault.LexKind.TheVariants.{BadChar, WideLiteral}
use Rattle.rel_flaws.specs.Flaws.{Kind, Twice, Unknown, Missing, NoMain, NotVisible, WrongArity, Target, OldHere, NotCode, WrongType, Fault}
use Rattle.rel_decls.specs.declared.fault.TextFault.{TextFault}
use Rattle.rel_decls.specs.declared.fault.TextFault.TheVariants.{NotUtf8, Lexical, Syntax, TooDeep, TooMany, Memory}

-- a text and the line feed that ends a line
abbrev pub line : List ℕ → List ℕ
line text = text ++ 10 ∷ []

abbrev pub usage_line : List ℕ
usage_line = line (codes "usage: whyrel check BUNDLE PROOF | prove BUNDLE OUT BUDGET | obligations BUNDLE | show BUNDLE | big N BUDGET")

abbrev pub fault_line : List ℕ → List ℕ
fault_line name = codes "file fault: " ++ line name

-- ---- refusals

abbrev pub large_line : List ℕ
large_line = line (codes "refused TooLarge bundle")

-- for this reason, at this byte
abbrev pub refused_line : List ℕ → ℕ → List ℕ
refused_line why at = codes "refused " ++ (why ++ (codes " at " ++ line (decimal at)))

-- want of memory has no line
abbrev pub text_fault_line : TextFault → List ℕ
text_fault_line (NotUtf8 at) = refused_line (codes "NotUtf8") at
text_fault_line (Lexical BadChar at) = refused_line (codes "Lexical BadChar") at
text_fault_line (Lexical WideLiteral at) = refused_line (codes "Lexical WideLiteral") at
text_fault_line (Syntax at) = refused_line (codes "Syntax") at
text_fault_line (TooDeep at) = refused_line (codes "TooDeep") at
text_fault_line (TooMany at) = refused_line (codes "TooMany") at
text_fault_line Memory = []

abbrev pub kind_words : Kind → List ℕ
kind_words Twice = codes "Typing Twice"
kind_words Unknown = codes "Typing Unknown"
kind_words Missing = codes "Typing Missing"
kind_words NoMain = codes "Typing NoMain"
kind_words NotVisible = codes "Typing NotVisible"
kind_words WrongArity = codes "Typing WrongArity"
kind_words Target = codes "Typing Target"
kind_words OldHere = codes "Typing OldHere"
kind_words NotCode = codes "Typing NotCode"
kind_words WrongType = codes "Typing WrongType"

abbrev pub type_fault_line : Fault → List ℕ
type_fault_line f = refused_line (kind_words f.kind) f.at

abbrev pub bundle_line : List ℕ
bundle_line = line (codes "refused NotBuilt bundle")

abbrev pub proof_line : List ℕ
proof_line = line (codes "refused NotBuilt proof")

-- ---- items

-- the first word of an item
abbrev pub kind_of : Item → Word
kind_of (OfClass c) = codes "class"
kind_of (OfInterface i) = codes "interface"
kind_of (OfModule m) = codes "module"
kind_of (OfUnit u) = codes "unit"
kind_of (OfClient c) = codes "client"
kind_of (OfJudgement j) = codes "judge"
kind_of (OfPair p) = codes "pair"

-- the byte where it begins
abbrev pub byte_of : Item → ℕ
byte_of (OfClass c) = c.at
byte_of (OfInterface i) = i.at
byte_of (OfModule m) = m.at
byte_of (OfUnit u) = u.at
byte_of (OfClient c) = c.at
byte_of (OfJudgement j) = j.at
byte_of (OfPair p) = p.at

-- an obligation that stands where this item begins
abbrev pub place_of : Item → List ℕ
place_of i = codes " in " ++ (kind_of i ++ (codes " " ++ (item_name i ++ (codes " at " ++ line (decimal (byte_of i))))))

abbrev pub bad_step_line : Item → ℕ → List ℕ
bad_step_line i step = codes "refused BadStep obligation 0 step " ++ (decimal step ++ place_of i)

abbrev pub open_nodes_line : Item → ℕ → List ℕ
open_nodes_line i nodes = codes "refused OpenNodes " ++ (decimal nodes ++ (codes " obligation 0" ++ place_of i))

-- an item has so many obligations
abbrev pub item_line : Item → ℕ → List ℕ
item_line i count = kind_of i ++ (codes " " ++ (item_name i ++ (codes ": " ++ (decimal count ++ line (codes " obligations")))))

abbrev pub yes_line : ℕ → ℕ → List ℕ
yes_line items obligations = codes "yes: " ++ (decimal items ++ (codes " items, " ++ (decimal obligations ++ line (codes " obligations"))))
