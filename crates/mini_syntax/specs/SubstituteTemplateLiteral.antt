-- 19, `substitute_template_literal`: a template without expressions becomes its text.
use Rattle.std.specs.Prelude.{nat_le, length, Option, Some, None, if◌then◌else◌}
use Rattle.mini_model.specs.declared.shape.Shape.{Shape}
use Rattle.mini_model.specs.declared.shape.Shape.TheVariants as shape
use Rattle.mini_model.specs.Tree.{Tree, shape_of}
use Rattle.mini_node.specs.Children.{part}
use Rattle.mini_rows.specs.Spellings.{text}
use Rattle.mini_syntax.specs.Forms.{is_text_template}

-- the text that is written for the one piece of a template, where it is no longer than what is
-- written there
abbrev pub piece_text : Shape → Option Tree
piece_text (shape.TemplateElement is_tail raw (Some content)) = if nat_le (length content) (length raw) then Some (text content) else None
piece_text _ = None

abbrev pub written : Tree → Option Tree
written t = if is_text_template t then piece_text (shape_of (part (part t 0) 0)) else None
