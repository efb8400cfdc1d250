mod SettingLemmas
mod FormLemmas
mod ScriptLemmas
mod CreateLemmas
