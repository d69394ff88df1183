-- What the program's types are as the definitions have them.
use Rattle.std.specs.Prelude.{ℕ, List, false, codes}
use Rattle.mini_accept.specs.WellShaped as shaped
use Rattle.mini_accept.specs.Faults as faults
use Rattle.mini_accept.specs.Places as places
use Rattle.mini_fields.specs.declared.defect.Defect.{Defect}
use Rattle.mini_fields.specs.declared.defect.Defect.TheVariants as defect
use Rattle.mini_fields.specs.declared.place.Class.{Class}
use Rattle.mini_fields.specs.declared.place.Class.TheVariants as class
use Rattle.mini_fields.specs.declared.place.Depth.{Depth}
use Rattle.mini_fields.specs.declared.place.Depth.TheVariants as depth
use Rattle.mini_fields.specs.declared.place.MetaWord.{MetaWord}
use Rattle.mini_fields.specs.declared.place.MetaWord.TheVariants as word
use Rattle.mini_fields.specs.declared.place.Place.{Place}
use Rattle.mini_fields.specs.declared.place.Place.TheVariants as place
use Rattle.mini_fields.specs.declared.place.Tagging.{Tagging}
use Rattle.mini_fields.specs.declared.place.Tagging.TheVariants as tagging

abbrev pub defect_of : Defect → faults.Defect
defect_of defect.BadShape = faults.bad_shape
defect_of defect.Unsupported = faults.unsupported

-- ---- places

abbrev pub depth_of : Depth → shaped.Depth
depth_of depth.InModule = shaped.in_module
depth_of depth.InBody = shaped.in_body
depth_of depth.Nested = shaped.nested

abbrev pub tagging_of : Tagging → shaped.Tagging
tagging_of tagging.Untagged = shaped.untagged
tagging_of tagging.Tagged = shaped.tagged

abbrev pub letters_of : MetaWord → List ℕ
letters_of word.New = codes "new"
letters_of word.Target = codes "target"
letters_of word.Import = codes "import"
letters_of word.Meta = codes "meta"

abbrev pub class_of : Class → shaped.Class
class_of class.Program = shaped.a_program
class_of (class.Statement depth) = shaped.a_statement (depth_of depth)
class_of class.Block = shaped.a_block
class_of class.Case = shaped.a_case
class_of class.Catch = shaped.a_catch
class_of class.Init = shaped.an_init
class_of (class.LoopLeft enumerates) = shaped.a_loop_left enumerates
class_of class.Declarator = shaped.a_declarator
class_of class.Pattern = shaped.a_pattern
class_of class.PatternElement = shaped.a_pattern_element
class_of class.PatternProperty = shaped.a_pattern_property
class_of class.PatternRest = shaped.a_pattern_rest
class_of class.Parameter = shaped.a_parameter
class_of class.Binding = shaped.a_binding
class_of class.Label = shaped.a_label
class_of class.PrivateName = shaped.a_private_name
class_of class.FunctionBody = shaped.a_function_body
class_of class.ArrowBody = shaped.an_arrow_body
class_of class.ClassBody = shaped.a_class_body
class_of class.ClassMember = shaped.a_class_member
class_of class.Method = shaped.a_method
class_of class.Expression = shaped.an_expression
class_of class.Link = shaped.a_link
class_of class.Chain = shaped.a_chain
class_of class.Argument = shaped.an_argument
class_of class.InnerArgument = shaped.an_inner_argument
class_of class.Super = shaped.a_super
class_of class.ObjectProperty = shaped.an_object_property
class_of (class.Key computed) = shaped.a_key computed
class_of class.PrivateOrKey = shaped.a_private_or_key false
class_of class.InnerKey = shaped.an_inner_key false
class_of class.TaggedTemplate = shaped.a_tagged_template
class_of class.Target = shaped.a_target
class_of class.SimpleTarget = shaped.a_simple_target
class_of class.ElementTarget = shaped.an_element_target
class_of class.MemberTarget = shaped.a_member_target
class_of class.NamedTarget = shaped.a_named_target
class_of class.TargetName = shaped.a_target_name
class_of class.TargetElement = shaped.a_target_element
class_of class.TargetProperty = shaped.a_target_property
class_of class.TargetRest = shaped.a_target_rest
class_of class.Import = shaped.an_import
class_of class.ModuleName = shaped.a_module_name
class_of class.String = shaped.a_string
class_of class.ExportedDeclaration = shaped.an_exported_declaration
class_of class.DefaultExport = shaped.a_default_export
class_of (class.Word w) = shaped.a_word (letters_of w)

abbrev pub place_of : Place → places.Place
place_of (place.At c) = places.at (class_of c)
place_of place.Directive = places.a_directive
place_of place.DirectiveText = places.a_directive_text
place_of (place.Quasi g last) = places.a_quasi (tagging_of g) last
place_of (place.Exported own) = places.an_exported own
place_of place.LocalName = places.a_local_name
