pub mod KnowledgeLaws
mod MailLaws
mod BoxLaws
